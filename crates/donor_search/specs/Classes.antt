-- Imputation classes: the clean rows that have one code at the class field.
use Rattle.std.specs.Prelude.{ℕ, ◌==◌, ◌&&◌, Bool, false, List}
use Rattle.edit_model.specs.CleanRecords.{is_clean}
use Rattle.edit_model.specs.Parts.{SurveyParts}
use Rattle.edit_model.specs.Rows.{value_of}
use Rattle.edit_model.specs.declared.value.Value.{Value}
use Rattle.edit_model.specs.declared.value.Value.TheVariants.{Code, Number, Bad}
use Rattle.donor_search.specs.Places.{places_from}

-- whether a value is this code
abbrev pub is_code : ℕ → Value → Bool
is_code code (Code c) = c == code
is_code code (Number x) = false
is_code code Bad = false

-- whether a row has this code at this field
abbrev pub has_code : ℕ → ℕ → List Value → Bool
has_code field code row = is_code code (value_of row field)

-- whether a row is a donor of the class of this code: it is clean and has that code at the field
abbrev pub is_donor_of_class : SurveyParts → ℕ → ℕ → List Value → Bool
is_donor_of_class survey field code row = is_clean survey row && has_code field code row

-- the donors of the class of this code, in row order
abbrev pub donors_of_class : SurveyParts → List (List Value) → ℕ → ℕ → List ℕ
donors_of_class survey rows field code = places_from (is_donor_of_class survey field code) 0 rows
