use Rattle.std.proofs.Common.{◌≡◌, drop}
use Rattle.std.specs.Cmp.Lexicographic.{pointwise}
use Rattle.edit_line.specs.Equality.{same_numbered}
use Rattle.edit_line.proofs.equality.same_lines.Given as goal

abbrev pub invariant-loop-i : goal.invariant-loop-i
invariant-loop-i l = pointwise same_numbered (drop l.i l.first) (drop l.i l.second) ≡ pointwise same_numbered l.first l.second
