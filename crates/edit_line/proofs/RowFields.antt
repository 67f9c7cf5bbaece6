use Rattle.std.proofs.Common.{◌≡◌, ℕ, ◌<◌, Bool, List, All, length, arith}
use Rattle.edit_model.specs.Corrections as corrections
use Rattle.edit_model.specs.Corrections.{is_numerical}
use Rattle.edit_model.specs.Rows.{IsRow}
use Rattle.edit_model.specs.declared.field.Field.{Field}
use Rattle.edit_model.specs.declared.field.Kind.{Kind}
use Rattle.edit_model.specs.declared.value.Value.{Value}
use Rattle.edit_model.proofs.OrderLaws.{numbers-below}
use Rattle.edit_model.proofs.RowLaws.{row-length}

-- A record has a value at each of the survey's fields.

-- at the fields of one kind
pub kind-within : (test : Kind → Bool) (fields : List Field) (row : List Value) (numbers : List ℕ) → IsRow fields row → numbers
    ≡ corrections.numbers_from test 0 fields → All (λ f. f < length row) numbers
kind-within test fields row numbers are same = numbers-below test (length row) fields numbers (omega (arith, row-length fields row are)) same

-- and so at the numerical ones
pub numbers-within : (fields : List Field) (row : List Value) (numbers : List ℕ) → IsRow fields row → numbers ≡ corrections.number_fields fields
    → All (λ f. f < length row) numbers
numbers-within fields row numbers are same = kind-within is_numerical fields row numbers are same
