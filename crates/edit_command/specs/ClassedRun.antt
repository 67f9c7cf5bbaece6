-- What a run of the command `classed` does: an edit whose records take values from donors of their own imputation class.
use Rattle.std.specs.Prelude.{◌≡◌, ◌⊎◌, ℕ, Some, IfSome}
use Rattle.edit_desk.specs.Desk.{Files}
use Rattle.edit_model.specs.Parts.{SurveyParts}
use Rattle.record_text.specs.Sheets.{SheetParts}
use Rattle.command_words.specs.Asked.{ClassedAsked}
use Rattle.run_parts.specs.Commands.{Command, HasReleased, IsStopped, IsWhole}
use Rattle.run_parts.specs.Faults.{IsOfClassed}
use Rattle.run_parts.specs.Run.{IsFaultless, Run}
use Rattle.run_parts.specs.declared.status.Status.{Status}
use Rattle.run_parts.specs.declared.status.Status.TheVariants as status
use Rattle.edit_command.specs.ClassedInput.{HoldsClassed, IsDueByClass, RefusesByClass}
use Rattle.edit_command.specs.EditRun.{MakesEdit, edit_calls}

-- the command: it makes the calls of an edit, and what an edit makes by the classes of the field that is asked for
abbrev pub classed_command : ClassedAsked → Command
classed_command asked = record {
  meets = IsOfClassed;
  refuses = RefusesByClass asked.edit.names.rules asked.edit.names.records asked.class;
  order = edit_calls asked.edit;
  makes = MakesEdit asked.edit (Some asked.class);
}

-- a whole run: the three files were stored, and the two lines of the summary were printed
abbrev pub IsClassedRun : ClassedAsked → Status → Run → Type 0
IsClassedRun asked answer run = IsWhole (classed_command asked) answer run

-- a run that did not do all: it is refused for a fault, or its summary was not printed
abbrev pub IsClassedStopped : ClassedAsked → Status → Run → Type 0
IsClassedStopped asked answer run = IsStopped (classed_command asked) answer run

-- where the rules that the desk held have a reading with the class field, and the records have one, and no fault is met, the records
-- are released, but for want of memory
abbrev pub IsClassedComplete : ClassedAsked → Status → Run → Type 0
IsClassedComplete asked answer run = IfSome run.before.files (λ files. (survey : SurveyParts) (number : ℕ) (sheet : SheetParts)
    → HoldsClassed (Some files) asked.edit.names.rules asked.edit.names.records asked.class survey number sheet → IsFaultless run
    → HasReleased answer ⊎ (answer ≡ status.OutOfMemory))

-- the files of the command are to be refused with this status
abbrev pub IsClassedDue : ClassedAsked → Files → Status → Type 0
IsClassedDue asked files answer = IsDueByClass asked.edit.names.rules asked.edit.names.records asked.class files answer
