use Rattle.std.proofs.Common.{◌≡◌, drop}
use Rattle.edit_model.specs.FieldSets.{has_number}
use Rattle.edit_line.specs.Sums.{stands_only}
use Rattle.edit_line.proofs.line_fields.stands_only.Given as goal

abbrev pub invariant-loop-place : goal.invariant-loop-place
invariant-loop-place l = stands_only (has_number l.set) (drop l.place l.fields) (drop l.place l.factors) ≡ stands_only (has_number l.set) l.fields l.factors
