-- What a run of the command `edit` does.
use Rattle.std.specs.Prelude.{◌≡◌, ℕ, List, [], ◌∷◌, Option, None, Some}
use Rattle.edit_desk.specs.Desk.{Asked, Files, fetched, stored}
use Rattle.edit_model.specs.Parts.{SurveyParts}
use Rattle.edit_model.specs.Surveys.{IsWellFormed}
use Rattle.record_text.specs.Sheets.{SheetParts}
use Rattle.edit_release.specs.Edits.{Written}
use Rattle.command_words.specs.Asked.{EditAsked}
use Rattle.edit_command.specs.ClassFields.{IsClassAsked}
use Rattle.edit_command.specs.Edits.{IsEditWith, terms_asked}
use Rattle.edit_command.specs.Reach.{IsDoneInReach}
use Rattle.run_parts.specs.Commands.{Command, IsReleaseComplete, IsStopped, IsWhole, Made}
use Rattle.run_parts.specs.Faults.{IsOfEdit}
use Rattle.run_parts.specs.Readings.{HoldsRecords, HoldsRules, Refuses}
use Rattle.run_parts.specs.Run.{Run}
use Rattle.run_parts.specs.declared.status.Status.{Status}

-- all calls of an edit, in order
abbrev pub edit_calls : EditAsked → List Asked
edit_calls asked =
    fetched asked.names.rules ∷ fetched asked.names.records
    ∷ stored asked.names.proof ∷ stored asked.names.reasons ∷ stored asked.names.released ∷ []

-- the files that an edit stores, in order
abbrev pub edit_files : EditAsked → Written → List (List ℕ × List ℕ)
edit_files asked written =
    (asked.names.proof, written.proof) ∷ (asked.names.reasons, written.reasons) ∷ (asked.names.released, written.released) ∷ []

-- this is to be written and printed of the files that the desk held: the rules were read as a well-formed survey, and the records, and
-- it is their edit by as many workers as were asked for, by the classes of the field that was asked for, or by none; where some point is
-- consistent, and nothing stands in the way of any of these records, all are released
pub record IsMade (asked : EditAsked) (class : Option (List ℕ)) (answer : Status) (files : Files) (written : Written) : Type 0 where
  pub survey : SurveyParts
  pub sheet : SheetParts
  pub class_field : Option ℕ
  pub rules : HoldsRules (Some files) asked.names.rules survey
  pub formed : IsWellFormed survey
  pub classes : IsClassAsked survey.fields class class_field
  pub records : HoldsRecords (Some files) asked.names.records survey.fields sheet
  pub edit : IsEditWith survey sheet (terms_asked asked class_field) asked.workers answer written
  pub whole : IsDoneInReach survey asked.budget sheet.rows edit.ends answer

-- what such an edit makes: the three files, and the two lines of the summary
abbrev pub edit_made : EditAsked → Status → Written → Made
edit_made asked answer written = record { status = answer; files = edit_files asked written; lines = written.summary }

-- this is what an edit is to make of the files, by the classes of a field of this name, or by none
abbrev pub MakesEdit : EditAsked → Option (List ℕ) → Files → Made → Type 0
MakesEdit asked class files made =
    (answer : Status) × (written : Written) × IsMade asked class answer files written × (made ≡ edit_made asked answer written)

-- the command `edit`: its calls, why it is refused, and what it makes, without classes
abbrev pub edit_command : EditAsked → Command
edit_command asked = record { meets = IsOfEdit; refuses = Refuses asked; order = edit_calls asked; makes = MakesEdit asked None }

-- a whole edit: the three files were stored, and the two lines of the summary were printed
abbrev pub IsEdited : EditAsked → Status → Run → Type 0
IsEdited asked answer run = IsWhole (edit_command asked) answer run

-- an edit that did not do all: it is refused for a fault, or its summary was not printed
abbrev pub IsEditStopped : EditAsked → Status → Run → Type 0
IsEditStopped asked answer run = IsStopped (edit_command asked) answer run

-- where both files that the desk held have readings, and no fault is met, the edit is done, but for want of memory
abbrev pub IsEditComplete : EditAsked → Status → Run → Type 0
IsEditComplete asked answer run = IsReleaseComplete asked.names.rules asked.names.records answer run
