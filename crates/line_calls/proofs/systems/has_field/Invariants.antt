use Rattle.std.proofs.Common.{◌≡◌, true, drop}
use Rattle.edit_line.specs.Shapes.{has_field}
use Rattle.line_calls.proofs.systems.has_field.Given as goal

abbrev pub invariant-loop-i : goal.invariant-loop-i
invariant-loop-i l = has_field (drop l.i l.fields) l.field ≡ true → has_field l.fields l.field ≡ true
