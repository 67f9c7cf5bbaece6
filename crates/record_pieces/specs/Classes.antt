-- Imputation classes: a record takes values from donors that have its own code at the class field.
use Rattle.std.specs.Prelude.{◌≡◌, ℕ, ◌<◌, List, [], Option, Some, None, if◌then◌else◌, length, nat_lt, slice_get}
use Rattle.edit_model.specs.FieldSets.{has_number}
use Rattle.edit_model.specs.Parts.{SurveyParts}
use Rattle.edit_model.specs.Rows.{value_of}
use Rattle.edit_model.specs.declared.field.Field.{Field}
use Rattle.edit_model.specs.declared.field.Kind.{Kind}
use Rattle.edit_model.specs.declared.field.Kind.TheVariants as kind
use Rattle.edit_model.specs.declared.value.Value.{Value}
use Rattle.edit_model.specs.declared.value.Value.TheVariants.{Code, Number, Bad}
use Rattle.donor_search.specs.Classes.{donors_of_class}
use Rattle.donor_search.specs.CleanRows.{IsCleanRow, donors_of, row_at}

-- how many codes a field of this kind has: a numerical one has none
abbrev pub codes_of_kind : Kind → ℕ
codes_of_kind (kind.Number scale) = 0
codes_of_kind (kind.Code codes) = length codes

-- how many codes this field has, if it is one
abbrev pub codes_in : Option Field → ℕ
codes_in None = 0
codes_in (Some field) = codes_of_kind field.kind

-- how many codes the field of this number has
abbrev pub code_count : List Field → ℕ → ℕ
code_count fields field = codes_in (slice_get fields field)

-- ---- classes, by their numbers

-- how many classes have donors: one for each code of the class field, or one alone where there is no class field
abbrev pub class_count : List Field → Option ℕ → ℕ
class_count fields None = 1
class_count fields (Some field) = code_count fields field

-- the class of a value at the class field: the number of its code, or the last class where it is none
abbrev pub class_of_value : ℕ → Value → ℕ
class_of_value last (Code code) = code
class_of_value last (Number x) = last
class_of_value last Bad = last

-- the class of a record as it was read; there is one alone where there is no class field
abbrev pub class_read : ℕ → Option ℕ → List Value → ℕ
class_read last None row = 0
class_read last (Some field) row = class_of_value last (value_of row field)

-- the class of a record that keeps these fields: as it was read where it keeps the class field, and else the last class
abbrev pub class_kept : ℕ → Option ℕ → List Value → ℕ → ℕ
class_kept last None row kept = 0
class_kept last (Some field) row kept = if has_number kept field then class_of_value last (value_of row field) else last

-- ---- donors of classes

-- the donors of a class, in row order: the clean records with its code, or all clean records where there is no class field. The last
-- class has none
abbrev pub donors_in : SurveyParts → List (List Value) → Option ℕ → ℕ → List ℕ
donors_in survey rows None class = donors_of survey rows
donors_in survey rows (Some field) class =
    if nat_lt class (code_count survey.fields field) then donors_of_class survey rows field class else []

-- a clean record that was read in this class, which is not the last
pub record IsDonorIn (survey : SurveyParts) (rows : List (List Value)) (class_field : Option ℕ) (class donor : ℕ) : Type 0 where
  pub clean : IsCleanRow survey rows donor
  pub own : class_read (class_count survey.fields class_field) class_field (row_at rows donor) ≡ class
  pub some : class < class_count survey.fields class_field
