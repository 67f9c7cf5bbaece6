use Rattle.std.proofs.Common.{◌≡◌}
use Rattle.linear_elim.proofs.ColumnLaws.{name_from}
use Rattle.linear_elim.proofs.column.place_at.Given as goal

abbrev pub invariant-loop-i : goal.invariant-loop-i
invariant-loop-i l = name_from l.counts l.i l.left ≡ name_from l.counts 0 l.place
