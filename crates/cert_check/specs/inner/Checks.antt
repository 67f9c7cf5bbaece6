use Rattle.std.specs.Prelude.{◌≡◌, ℕ, ◌<◌, All, Bool, true, List, IfSome, IsSomeAnd, length, option_map, slice_get}
use Rattle.edit_model.specs.CleanRecords.{is_clean}
use Rattle.edit_model.specs.Rows.{IsRow, value_of}
use Rattle.edit_model.specs.declared.field.Field.{Field}
use Rattle.edit_model.specs.declared.value.Value.{Value}
use Rattle.edit_line.specs.Lines.{AreOver}
use Rattle.edit_line.specs.Shapes.{shape_of}
use Rattle.bound_cert.specs.Paths.{changes}
use Rattle.record_text.specs.Sheets.{text_at}
use Rattle.cert_check.specs.Released.{AreValuesFrom, IsValueOf}
use Rattle.cert_check.specs.RowChecks.{RowFiles, RowRules}
use Rattle.cert_check.specs.declared.checking.Checking.{Checking}
use Rattle.cert_check.specs.declared.checking.RowAt.{RowAt}

-- The parts of the audit. Private contracts alone cite this page.

-- by what the records are checked, as a value
abbrev pub rules_in : Checking → RowRules
rules_in c = record { survey = c.survey.now; given = c.given.now; usable = c.usable.now; columns = c.columns.now; budget = c.budget }

-- a record as it was read, and the texts that are released of it, as a value
abbrev pub files_in : RowAt → RowFiles
files_in f = record { reads = f.reads.now; row = f.row.now; texts = option_map (λ t. t.now) f.texts }

-- the parts fit each other: the lines are over the survey's fields, and each field has a column
pub record IsChecking (c : Checking) : Type 0 where
  pub lists : length c.given.now ≡ length c.usable.now
  pub over : AreOver (shape_of c.survey.now.fields) c.given.now
  pub columns : length c.columns.now ≡ length c.survey.now.fields

-- the record is one of the survey, each field's column is there, and as many texts are released as were read
pub record FitsFiles (c : Checking) (f : RowAt) : Type 0 where
  pub row : IsRow c.survey.now.fields f.row.now
  pub within : All (λ column. column < length f.reads.now) c.columns.now
  pub long : IfSome f.texts (λ texts. length texts.now ≡ length f.reads.now)

-- the value of the field of this number, of the record of which the path changes some fields
abbrev pub IsValueAt : Checking → List Value → List Bool → List (List ℕ) → ℕ → Value → Type 0
IsValueAt c row path texts f v = IsSomeAnd (slice_get c.survey.now.fields f)
    (λ (field : Field). IsValueOf (changes c.survey.now.fields path f) field.kind (text_at c.columns.now texts f) (value_of row f) v)

-- the values of all fields, of the record of which the path changes some
abbrev pub AreNewValues : Checking → List Value → List Bool → List (List ℕ) → List Value → Type 0
AreNewValues c row path texts new =
    AreValuesFrom (changes c.survey.now.fields path) (text_at c.columns.now texts) 0 c.survey.now.fields row new

-- this is so of the values of all fields, whichever they are
abbrev pub OfNewValues : Checking → List Value → List Bool → List (List ℕ) → (List Value → Type 0) → Type 0
OfNewValues c row path texts P = (new : List Value) → AreNewValues c row path texts new → P new

-- the texts give each field a value, and the record of these is clean
abbrev pub GivesClean : Checking → List Bool → List (List ℕ) → List Value → Type 0
GivesClean c path texts row = (new : List Value) × AreNewValues c row path texts new × (is_clean c.survey.now new ≡ true)
