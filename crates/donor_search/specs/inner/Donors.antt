-- The donors of all rows, or of those of one class.
use Rattle.std.specs.Prelude.{ℕ, Bool, List, Option, Some, None}
use Rattle.edit_model.specs.CleanRecords.{is_clean}
use Rattle.edit_model.specs.Parts.{SurveyParts}
use Rattle.edit_model.specs.declared.value.Value.{Value}
use Rattle.donor_search.specs.Classes.{is_donor_of_class}
use Rattle.donor_search.specs.Places.{places_from}
use Rattle.donor_search.specs.declared.class.Class.{Class}

-- whether a row is a donor, of the class where there is one
abbrev pub is_donor_in : SurveyParts → Option Class → List Value → Bool
is_donor_in survey None = is_clean survey
is_donor_in survey (Some class) = is_donor_of_class survey class.field class.code

-- the donors, of the class where there is one, in row order
abbrev pub donors_in : SurveyParts → List (List Value) → Option Class → List ℕ
donors_in survey rows class = places_from (is_donor_in survey class) 0 rows
