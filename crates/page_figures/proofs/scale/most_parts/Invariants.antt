use Rattle.std.proofs.Common.{◌≡◌, drop, length, map, max}
use Rattle.std.specs.List.{fold}
use Rattle.page_figures.specs.Drawings.{BarParts, most_parts, parts_of}
use Rattle.page_figures.proofs.scale.most_parts.Given as goal

abbrev pub invariant-loop-bar : goal.invariant-loop-bar
invariant-loop-bar l =
    fold (λ a b. max a b) l.most (map (λ (b : BarParts). length b.parts) (map parts_of (drop l.bar-index l.bars)))
    ≡ most_parts (map parts_of l.bars)
