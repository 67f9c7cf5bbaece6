use Rattle.std.proofs.Common.{◌≡◌, drop, map, max}
use Rattle.std.specs.List.{fold}
use Rattle.page_figures.specs.Drawings.{BarParts, parts_of}
use Rattle.page_figures.specs.Figures.{greatest_in, reach}
use Rattle.page_figures.proofs.scale.greatest_in.Given as goal

abbrev pub invariant-loop-bar : goal.invariant-loop-bar
invariant-loop-bar l =
    fold (λ a b. max a b) l.greatest (map (λ (b : BarParts). reach l.form b.parts) (map parts_of (drop l.bar-index l.bars)))
    ≡ greatest_in l.form (map parts_of l.bars)
