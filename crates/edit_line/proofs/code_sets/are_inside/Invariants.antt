use Rattle.std.proofs.Common.{◌≡◌, drop}
use Rattle.edit_line.specs.Sets.{are_subsets}
use Rattle.edit_line.proofs.code_sets.are_inside.Given as goal

abbrev pub invariant-loop-i : goal.invariant-loop-i
invariant-loop-i l = are_subsets (drop l.i l.first) (drop l.i l.second) ≡ are_subsets l.first l.second
