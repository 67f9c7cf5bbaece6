use Rattle.std.proofs.Common.{◌≡◌, drop, max}
use Rattle.std.specs.List.{fold}
use Rattle.page_figures.specs.Sums.{greatest_of}
use Rattle.page_figures.proofs.scale.greatest_of.Given as goal

abbrev pub invariant-loop-part : goal.invariant-loop-part
invariant-loop-part l = fold (λ a b. max a b) l.greatest (drop l.part-index l.parts) ≡ greatest_of l.parts
