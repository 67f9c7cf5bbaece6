use Rattle.std.proofs.Common.{◌≡◌, drop}
use Rattle.linear_elim.specs.Steps.{equality_from}
use Rattle.linear_elim.proofs.substitution.first_equality.Given as goal

abbrev pub invariant-loop-place : goal.invariant-loop-place
invariant-loop-place l = equality_from l.given.column.field l.place (drop l.place l.given.lines.now) ≡ equality_from l.given.column.field 0 l.given.lines.now
