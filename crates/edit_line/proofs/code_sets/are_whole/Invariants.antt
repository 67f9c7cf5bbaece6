use Rattle.std.proofs.Common.{◌≡◌, drop, map, nat_eq}
use Rattle.std.specs.Cmp.Lexicographic.{pointwise}
use Rattle.edit_line.specs.Shapes.{domain_with, whole_sets}
use Rattle.edit_line.proofs.code_sets.are_whole.Given as goal

abbrev pub invariant-loop-count : goal.invariant-loop-count
invariant-loop-count l = pointwise nat_eq (drop l.place l.sets) (whole_sets (map domain_with (drop l.count-index l.count-items)))
    ≡ pointwise nat_eq l.sets (whole_sets (map domain_with l.count-items))
