-- What a run of the command `fill` does.
use Rattle.std.specs.Prelude.{◌≡◌, if◌then◌else◌, List, [], ◌∷◌, Some}
use Rattle.edit_desk.specs.Desk.{Asked, Files, fetched, stored}
use Rattle.edit_model.specs.Parts.{SurveyParts}
use Rattle.edit_model.specs.Surveys.{IsWellFormed}
use Rattle.record_text.specs.Sheets.{SheetParts}
use Rattle.filled_release.specs.FilledFiles.{IsFilledFile}
use Rattle.filled_release.specs.declared.filled_file.FilledFile.{FilledFile}
use Rattle.command_words.specs.Asked.{FillAsked}
use Rattle.run_parts.specs.Commands.{Command, IsReleaseComplete, IsStopped, IsWhole, Made}
use Rattle.run_parts.specs.Faults.{IsOfEdit}
use Rattle.run_parts.specs.Readings.{HoldsRecords, HoldsRules, IsInputDue, RefusesInput}
use Rattle.run_parts.specs.Run.{Run}
use Rattle.run_parts.specs.declared.status.Status.{Status}
use Rattle.run_parts.specs.declared.status.Status.TheVariants.{Done, SomeUnresolved}

-- all calls of the command, in order
abbrev pub fill_calls : FillAsked → List Asked
fill_calls asked = fetched asked.rules ∷ fetched asked.records ∷ stored asked.released ∷ []

-- what is made of these filled records: it ends by whether the budget or the range of numbers stopped one of them, the released
-- file is stored, and the line that counts them is printed
abbrev pub made_of : FillAsked → FilledFile → Made
made_of asked file = record {
  status = if file.whole then Done else SomeUnresolved;
  files = (asked.released, file.released.items) ∷ [];
  lines = file.summary.items ∷ [];
}

-- this is to be made of the files that the desk held: the rules were read as a well-formed survey, and the records, and each record
-- was filled by all rules within the budget that was asked for
pub record IsFilling (asked : FillAsked) (files : Files) (made : Made) : Type 0 where
  pub survey : SurveyParts
  pub sheet : SheetParts
  pub rules : HoldsRules (Some files) asked.rules survey
  pub formed : IsWellFormed survey
  pub records : HoldsRecords (Some files) asked.records survey.fields sheet
  pub file : FilledFile
  pub filled : IsFilledFile survey sheet asked.budget file
  pub is : made ≡ made_of asked file

-- the command
abbrev pub fill_command : FillAsked → Command
fill_command asked = record {
  meets = IsOfEdit;
  refuses = RefusesInput asked.rules asked.records;
  order = fill_calls asked;
  makes = IsFilling asked;
}

-- a whole run: the released file was stored, and the line that counts was printed
abbrev pub IsFillRun : FillAsked → Status → Run → Type 0
IsFillRun asked answer run = IsWhole (fill_command asked) answer run

-- a run that did not do all
abbrev pub IsFillStopped : FillAsked → Status → Run → Type 0
IsFillStopped asked answer run = IsStopped (fill_command asked) answer run

-- where both files that the desk held have readings, and no fault is met, the records are filled, but for want of memory
abbrev pub IsFillComplete : FillAsked → Status → Run → Type 0
IsFillComplete asked answer run = IsReleaseComplete asked.rules asked.records answer run

-- the files are to be refused with this status
abbrev pub IsFillDue : FillAsked → Files → Status → Type 0
IsFillDue asked files answer = IsInputDue asked.rules asked.records files answer
