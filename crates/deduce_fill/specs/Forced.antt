use Rattle.std.specs.Prelude.{◌≡◌, ℕ, ◌<◌, false, List, IsSomeAnd, length, slice_get}
use Rattle.std.specs.Bool.{IsFalse}
use Rattle.edit_model.specs.Corrections.{differs_from}
use Rattle.edit_model.specs.Parts.{SurveyParts}
use Rattle.edit_model.specs.Points.{IsConsistent, Point}
use Rattle.edit_model.specs.RowPoints.{Agrees}
use Rattle.edit_model.specs.Rows.{IsOfKind, is_bad, value_of}
use Rattle.edit_model.specs.declared.field.Field.{Field}
use Rattle.edit_model.specs.declared.value.Value.{Value}
use Rattle.edit_model.specs.declared.value.Value.TheVariants.{Bad}

-- the point has the record's value at each field at which there is one
abbrev pub AgreesWhereKnown : List Value → Point → Type 0
AgreesWhereKnown row p = (f : ℕ) → f < length row → is_bad (value_of row f) ≡ false → Agrees row p f

-- a completion of the record: a consistent point that has the record's values
pub record IsCompletion (survey : SurveyParts) (row : List Value) (p : Point) : Type 0 where
  pub consistent : IsConsistent survey p
  pub agrees : AgreesWhereKnown row p

-- the point has this value at the field
abbrev pub HasValue : Value → Point → ℕ → Type 0
HasValue v p f = IsFalse (differs_from v p f)

-- the value, one of the field's, is forced at a field without a value: there is a completion, and each has this value there
-- (deductive imputation)
pub record IsForced (survey : SurveyParts) (row : List Value) (f : ℕ) (v : Value) : Type 0 where
  pub within : f < length row
  pub bad : value_of row f ≡ Bad
  pub fits : IsSomeAnd (slice_get survey.fields f) (λ (field : Field). IsOfKind field.kind v)
  pub some : (p : Point) × IsCompletion survey row p
  pub every : (p : Point) → IsCompletion survey row p → HasValue v p f
