use Rattle.std.proofs.Common.{◌≡◌, take}
use Rattle.release_figures.specs.Figures.{numbered}
use Rattle.release_figures.proofs.numbered.number_sizes.Given as goal

abbrev pub invariant-loop-place : goal.invariant-loop-place
invariant-loop-place l = l.amounts.items ≡ numbered 0 (take l.place l.sizes)
