-- What settles the end of a record.
use Rattle.std.specs.Prelude.{◌≡◌, ℕ, List}
use Rattle.edit_model.specs.Parts.{SurveyParts}
use Rattle.edit_model.specs.declared.value.Value.{Value}
use Rattle.edit_line.specs.EditSets.{EditsParts}
use Rattle.edit_paths.specs.Cases.{IsCase, case_of}
use Rattle.edit_report.specs.declared.end.RowEnd.{RowEnd}
use Rattle.record_ends.specs.Ends.{IsEndOf}

-- a record of the survey has one end for a donor, among the same rows, by the same edits and within the same budget: one outcome,
-- and one fault at which the giving stops, or one value at each field and one way in which it was found
abbrev pub OneEndLaw : Type 0
OneEndLaw = (survey : SurveyParts) (edits : EditsParts) (budget : ℕ) (rows : List (List Value)) (row : List Value) (end other : RowEnd)
    → IsCase (case_of survey edits row)
    → IsEndOf survey edits budget rows row end → IsEndOf survey edits budget rows row other → end.donor ≡ other.donor → end ≡ other
