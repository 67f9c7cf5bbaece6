use Rattle.std.proofs.Common.{drop}
use Rattle.edit_model.specs.Rows.{IsRow}
use Rattle.line_calls.proofs.records.are_values.Given as goal

abbrev pub invariant-loop-i : goal.invariant-loop-i
invariant-loop-i l = IsRow (drop l.i l.fields) (drop l.i l.values) → IsRow l.fields l.values
