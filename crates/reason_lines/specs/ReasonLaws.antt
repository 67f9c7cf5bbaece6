-- What the reader of reasons may rely on, whichever lines they come from.
use Rattle.std.specs.Prelude.{◌≢◌, ℕ, ◌<◌, List, IfSome, length}
use Rattle.std.specs.List.{AllByRecursion}
use Rattle.edit_model.specs.declared.field.Field.{Field}
use Rattle.reason_lines.specs.declared.entry.Change.{Change}
use Rattle.reason_lines.specs.declared.entry.LeftOut.{LeftOut}
use Rattle.reason_lines.specs.declared.reading.Reasons.{Reasons}

-- a change is of a record and a field that there are, and its donor, where it has one, is another record
pub record IsChangeWithin (fields : List Field) (rows : ℕ) (change : Change) : Type 0 where
  pub in_records : change.«record» < rows
  pub in_fields : change.field < length fields
  pub donor : IfSome change.donor (λ donor. (donor < rows) × (donor ≢ change.«record»))

-- all changes are such, and the records left out are among the records
pub record AreWithin (fields : List Field) (rows : ℕ) (reasons : Reasons) : Type 0 where
  pub changes : AllByRecursion (IsChangeWithin fields rows) reasons.changes
  pub left_out : AllByRecursion (λ (left_out : LeftOut). left_out.«record» < rows) reasons.left_out
