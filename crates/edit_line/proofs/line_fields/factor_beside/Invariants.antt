use Rattle.std.proofs.Common.{◌≡◌, drop, pos}
use Rattle.edit_line.specs.Shapes.{beside}
use Rattle.edit_line.proofs.line_fields.factor_beside.Given as goal

abbrev pub invariant-loop-place : goal.invariant-loop-place
invariant-loop-place l = beside (pos 0) (drop l.place l.fields) (drop l.place l.factors) l.field ≡ beside (pos 0) l.fields l.factors l.field
