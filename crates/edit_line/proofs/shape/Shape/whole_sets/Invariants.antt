use Rattle.std.proofs.Common.{◌≡◌, ◌++◌, drop, map}
use Rattle.edit_line.specs.Shapes.{domain_with, whole_sets}
use Rattle.edit_line.proofs.shape.Shape.whole_sets.Given as goal

abbrev pub invariant-loop-count : goal.invariant-loop-count
invariant-loop-count l = l.sets.items ++ whole_sets (map domain_with (drop l.count-index l.count-items)) ≡ whole_sets (map domain_with l.count-items)
