-- What a run does that edits records by the classes of a field of this name, or, where there is no name, by none.
use Rattle.std.specs.Prelude.{◌≡◌, ◌⊎◌, ⊤, ℕ, List, Option, None, Some, IfSome}
use Rattle.edit_desk.specs.Desk.{Files}
use Rattle.edit_model.specs.Parts.{SurveyParts}
use Rattle.edit_model.specs.declared.field.Field.{Field}
use Rattle.record_text.specs.Sheets.{SheetParts}
use Rattle.command_words.specs.Asked.{EditAsked}
use Rattle.run_parts.specs.Commands.{Command, HasReleased}
use Rattle.run_parts.specs.Faults.{IsOfClassed, IsOfEdit, IsOfInput}
use Rattle.run_parts.specs.Readings.{HoldsRecords, HoldsRules, IsInputDue, RefusesInput}
use Rattle.run_parts.specs.Run.{IsFaultless, Run}
use Rattle.run_parts.specs.declared.fault.Fault.{Fault}
use Rattle.run_parts.specs.declared.fault.Fault.TheVariants as fault
use Rattle.run_parts.specs.declared.status.Status.{Status}
use Rattle.run_parts.specs.declared.status.Status.TheVariants as status
use Rattle.edit_command.specs.ClassFields.{HasClass, IsClassAsked}
use Rattle.edit_command.specs.ClassedInput.{IsDueByClass, RefusesByClass}
use Rattle.edit_command.specs.EditRun.{MakesEdit, edit_calls}

-- ---- the class field

-- why the class field is refused: no categorical field has the name that is asked for; or memory was refused
abbrev pub RefusesClass : List Field → Option (List ℕ) → Fault → Type 0
RefusesClass fields class (fault.Class name) = (class ≡ Some name) × ¬ HasClass fields name
RefusesClass fields class fault.OutOfMemory = ⊤
RefusesClass fields class f = ⊥

-- ---- the files that are read

-- this is read from files of these names: the survey, the class field that is asked for, and the records
pub record HoldsEither (files : Option Files) (rules records : List ℕ) (class : Option (List ℕ))
    (survey : SurveyParts) (class_field : Option ℕ) (sheet : SheetParts) : Type 0 where
  pub read_rules : HoldsRules files rules survey
  pub classes : IsClassAsked survey.fields class class_field
  pub read_records : HoldsRecords files records survey.fields sheet

-- a fault that they may be refused for, as they are fetched and read
abbrev pub IsOfEitherInput : Option (List ℕ) → Fault → Type 0
IsOfEitherInput class (fault.Class name) = class ≡ Some name
IsOfEitherInput class f = IsOfInput f

-- why they are refused
abbrev pub RefusesEither : List ℕ → List ℕ → Option (List ℕ) → Option Files → Fault → Type 0
RefusesEither rules records None = RefusesInput rules records
RefusesEither rules records (Some class) = RefusesByClass rules records class

-- the status with which they are to be refused
abbrev pub IsEitherDue : List ℕ → List ℕ → Option (List ℕ) → Files → Status → Type 0
IsEitherDue rules records None = IsInputDue rules records
IsEitherDue rules records (Some class) = IsDueByClass rules records class

-- ---- runs

-- a fault that such a run may be refused for
abbrev pub IsOfEither : Option (List ℕ) → Fault → Type 0
IsOfEither None = IsOfEdit
IsOfEither (Some class) = IsOfClassed

-- the command
abbrev pub either_command : EditAsked → Option (List ℕ) → Command
either_command asked class = record {
  meets = IsOfEither class;
  refuses = RefusesEither asked.names.rules asked.names.records class;
  order = edit_calls asked;
  makes = MakesEdit asked class;
}

-- where both files that the desk held have readings, the rules with the class field, and no fault is met, the run is done, but for want of
-- memory
abbrev pub IsEitherComplete : EditAsked → Option (List ℕ) → Status → Run → Type 0
IsEitherComplete asked class answer run = IfSome run.before.files
    (λ files. (survey : SurveyParts) (class_field : Option ℕ) (sheet : SheetParts)
    → HoldsEither (Some files) asked.names.rules asked.names.records class survey class_field sheet → IsFaultless run
    → HasReleased answer ⊎ (answer ≡ status.OutOfMemory))
