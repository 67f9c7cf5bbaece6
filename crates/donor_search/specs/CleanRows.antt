use Rattle.std.specs.Prelude.{◌≡◌, ℕ, ◌<◌, All, true, List, [], length, slice_index_or}
use Rattle.std.specs.List.{AllByRecursion}
use Rattle.edit_model.specs.CleanRecords.{is_clean}
use Rattle.edit_model.specs.Parts.{SurveyParts}
use Rattle.edit_model.specs.PlainNumbers.{HasPlainNumbers}
use Rattle.edit_model.specs.declared.value.Value.{Value}
use Rattle.donor_measure.specs.Measures.{HasMeasurable}
use Rattle.donor_measure.specs.Yardsticks.{yardsticks_of}
use Rattle.donor_measure.specs.declared.yardstick.Yardstick.{Yardstick}
use Rattle.donor_search.specs.Places.{places_from}

-- the donors: the numbers of the clean rows, in order
abbrev pub donors_of : SurveyParts → List (List Value) → List ℕ
donors_of survey rows = places_from (is_clean survey) 0 rows

-- the row of a number
abbrev pub row_at : List (List Value) → ℕ → List Value
row_at rows i = slice_index_or rows i []

-- the number of a clean row
abbrev pub IsCleanRow : SurveyParts → List (List Value) → ℕ → Type 0
IsCleanRow survey rows i = (i < length rows) × (is_clean survey (row_at rows i) ≡ true)

-- a donor is a row, and has a code or a plain number at each kept field
abbrev pub IsRankable : List Yardstick → List (List Value) → ℕ → ℕ → Type 0
IsRankable yardsticks rows kept donor = (donor < length rows) × HasMeasurable yardsticks kept (row_at rows donor)

-- where all numbers are plain, each donor has a code or a plain number at each field, whichever are kept
abbrev pub CanAllGive : SurveyParts → List (List Value) → List ℕ → Type 0
CanAllGive survey rows donors =
    AllByRecursion HasPlainNumbers rows → (kept : ℕ) → All (IsRankable (yardsticks_of survey.fields) rows kept) donors
