use Rattle.std.proofs.Common.{◌≡◌, drop}
use Rattle.edit_line.specs.Sets.{are_codes_in}
use Rattle.edit_line.proofs.FactorLoops.{codes_of_row}
use Rattle.edit_line.proofs.line_fields.admits_codes.Given as goal

abbrev pub invariant-loop-place : goal.invariant-loop-place
invariant-loop-place l = are_codes_in (drop l.place l.sets) (codes_of_row l.row (drop l.place l.fields)) ≡ are_codes_in l.sets (codes_of_row l.row l.fields)
