use Rattle.std.specs.Prelude.{◌≡◌, ◌↔◌, ℕ, Bool, true, false, List, All, Some, slice_get, slice_index_or}
use Rattle.edit_model.specs.Corrections.{IsCorrection}
use Rattle.edit_model.specs.Parts.{SurveyParts}
use Rattle.edit_model.specs.Points.{HasCodesFrom, Point}
use Rattle.edit_model.specs.Rows.{IsRow}
use Rattle.edit_model.specs.Surveys.{IsField}
use Rattle.edit_model.specs.declared.value.Value.{Value}
use Rattle.edit_line.specs.EditSets.{EditsParts, IsReducedOf, base_lines, lines_without}
use Rattle.edit_line.specs.Lines.{AllHold, LineParts}
use Rattle.edit_line.specs.Reductions.{IsIn, reduce_derived}
use Rattle.edit_line.specs.Shapes.{shape_of}

-- what the search is about: a survey, the linear edits that it may use, by their numbers, and a record. (A certificate of
-- what it finds is checked alone, for the case of a tree, whose lines are all that the edits were chosen from.)
pub record SearchCase : Type 0 where
  pub survey : SurveyParts
  pub edits : List (ℕ × LineParts)
  pub row : List Value

-- the case of a survey's edits and record
abbrev pub case_of : SurveyParts → EditsParts → List Value → SearchCase
case_of survey edits row = record { survey = survey; edits = edits.lines; row = row }

-- the fields are in form, the record is one of the survey, and the edits are over its fields
pub record IsCase (c : SearchCase) : Type 0 where
  pub fields : All IsField c.survey.fields
  pub row : IsRow c.survey.fields c.row
  pub edits : IsReducedOf (shape_of c.survey.fields) c.edits (reduce_derived (base_lines c.edits))

-- each edit stands among the given lines, at its number, and is one of those that may be used
abbrev pub AreUsableAmong : List LineParts → List Bool → List (ℕ × LineParts) → Type 0
AreUsableAmong given usable edits =
    (e : ℕ × LineParts) → IsIn e edits → (slice_get given e.0 ≡ Some e.1) × (slice_index_or usable e.0 false ≡ true)

-- the edits as lines, without their numbers
abbrev pub edit_lines : SearchCase → List LineParts
edit_lines c = lines_without c.edits

-- the point has a code of its domain at each categorical field, and all edits hold there
pub record Meets (c : SearchCase) (p : Point) : Type 0 where
  pub codes : HasCodesFrom 0 c.survey.fields p
  pub edits : AllHold (edit_lines c) p

-- the edits hold exactly at the corrections
abbrev pub TellCorrections : SurveyParts → EditsParts → List Value → Type 0
TellCorrections survey edits row = (p : Point) → Meets (case_of survey edits row) p ↔ IsCorrection survey p
