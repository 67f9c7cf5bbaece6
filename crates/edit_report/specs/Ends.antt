-- What became of the records, and what is asked of it before it is told.
use Rattle.std.specs.Prelude.{◌≡◌, ℕ, ◌≤◌, Bool, IfSome, List, [], length}
use Rattle.std.specs.List.{AllByRecursion, filter}
use Rattle.edit_model.specs.Corrections.{path_order}
use Rattle.edit_model.specs.Parts.{SurveyParts}
use Rattle.edit_model.specs.Rows.{IsRow}
use Rattle.edit_model.specs.declared.field.Field.{Field}
use Rattle.bound_cert.specs.Paths.{changes}
use Rattle.bound_cert.specs.declared.outcome.Outcome.{Outcome}
use Rattle.bound_cert.specs.declared.outcome.Outcome.TheVariants.{Budget, Change, Contradictory, Overflow}
use Rattle.back_subst.specs.declared.gift.Gift.{Gift}
use Rattle.record_text.specs.Sheets.{SheetParts}
use Rattle.edit_report.specs.declared.end.RowEnd.{RowEnd}

-- the path at which the search of a record ended, none where it ended without one
abbrev pub path_found : Outcome → List Bool
path_found (Change path weight cert) = path
path_found (Budget path work) = path
path_found (Overflow path event) = path
path_found (Contradictory cert) = []

-- the fields that a path changes, in path order
abbrev pub changed_fields : List Field → List Bool → List ℕ
changed_fields fields path = filter (changes fields path) (path_order fields)

-- a record of the survey, and how the value at each field that the path changes was found; the path says something of no
-- more fields than the survey has
pub record IsGift (fields : List Field) (path : List Bool) (gift : Gift) : Type 0 where
  pub short : length path ≤ length fields
  pub row : IsRow fields gift.row
  pub how : length gift.how ≡ length (changed_fields fields path)

-- what became of a record: where it was given values, they are those of the path that was found
abbrev pub IsEnd : List Field → RowEnd → Type 0
IsEnd fields end = IfSome end.gift (IsGift fields (path_found end.proof.outcome))

-- what became of each record of a sheet, in order
pub record AreEnds (survey : SurveyParts) (sheet : SheetParts) (ends : List RowEnd) : Type 0 where
  pub one_each : length ends ≡ length sheet.rows
  pub each : AllByRecursion (IsEnd survey.fields) ends
