use Rattle.std.proofs.Common.{◌≡◌, map}
use Rattle.std.specs.List.{range_with_len}
use Rattle.page_figures.specs.Drawings.{parts_of}
use Rattle.page_figures.specs.Figures.{sum_at}
use Rattle.page_figures.proofs.others.sums_of.Given as goal

abbrev pub invariant-loop-place : goal.invariant-loop-place
invariant-loop-place l = l.sums.items ≡ map (λ p. sum_at p (map parts_of l.bars)) (range_with_len 0 l.place)
