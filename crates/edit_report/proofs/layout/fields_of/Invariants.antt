use Rattle.std.proofs.Common.{◌≡◌, length}
use Rattle.edit_report.specs.inner.Columns.{AreFieldsIn}
use Rattle.edit_report.proofs.layout.fields_of.Given as goal

abbrev pub invariant-loop-column : goal.invariant-loop-column
invariant-loop-column l = (length l.fields.items ≡ l.column) × AreFieldsIn l.columns l.fields.items
