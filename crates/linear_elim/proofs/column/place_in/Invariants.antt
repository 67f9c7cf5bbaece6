use Rattle.std.proofs.Common.{◌≡◌, ◌+◌, ◌≤◌}
use Rattle.linear_elim.proofs.ColumnLaws.{place_from}
use Rattle.linear_elim.proofs.column.place_in.Given as goal

abbrev pub invariant-loop-i : goal.invariant-loop-i
invariant-loop-i l = (l.place + place_from l.counts l.i l.field ≡ place_from l.counts 0 l.field) × (l.place ≤ l.i)
