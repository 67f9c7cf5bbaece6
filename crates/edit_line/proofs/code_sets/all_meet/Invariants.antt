use Rattle.std.proofs.Common.{◌≡◌, drop}
use Rattle.edit_line.specs.Combinations.{all_meet}
use Rattle.edit_line.proofs.code_sets.all_meet.Given as goal

abbrev pub invariant-loop-i : goal.invariant-loop-i
invariant-loop-i l = all_meet (drop l.i l.first) (drop l.i l.second) ≡ all_meet l.first l.second
