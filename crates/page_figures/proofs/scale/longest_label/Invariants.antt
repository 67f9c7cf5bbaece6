use Rattle.std.proofs.Common.{◌≡◌, drop, length, map, max}
use Rattle.std.specs.List.{fold}
use Rattle.page_figures.specs.Drawings.{BarParts, longest_label, parts_of}
use Rattle.page_figures.proofs.scale.longest_label.Given as goal

abbrev pub invariant-loop-bar : goal.invariant-loop-bar
invariant-loop-bar l =
    fold (λ a b. max a b) l.longest (map (λ (b : BarParts). length b.label) (map parts_of (drop l.bar-index l.bars)))
    ≡ longest_label (map parts_of l.bars)
