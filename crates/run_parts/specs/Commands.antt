-- What a run of a command does, whatever the command.
use Rattle.std.specs.Prelude.{◌≡◌, ◌≢◌, ◌⊎◌, ℕ, List, Option, Some, IfSome}
use Rattle.std.specs.List.{AllByRecursion}
use Rattle.edit_desk.specs.Desk.{Asked, Files, PutsOnRecord, Told}
use Rattle.edit_model.specs.Parts.{SurveyParts}
use Rattle.record_text.specs.Sheets.{SheetParts}
use Rattle.run_parts.specs.Readings.{HoldsRecords, HoldsRules}
use Rattle.run_parts.specs.Run.{AreTold, AreUntold, IsFaultless, IsRefused, LeavesOf, Refusals, Run}
use Rattle.run_parts.specs.declared.fault.Fault.{Fault}
use Rattle.run_parts.specs.declared.fault.Fault.TheVariants as fault
use Rattle.run_parts.specs.declared.status.Status.{Status}
use Rattle.run_parts.specs.declared.status.Status.TheVariants as status

-- what a command makes: how it ends, the files that it stores, each with its name, in order, and the lines that it prints
pub record Made : Type 0 where
  pub status : Status
  pub files : List (List ℕ × List ℕ)
  pub lines : List (List ℕ)

-- a command: the faults that it may meet, which of them the files that the desk held call for, told or not, the calls that it
-- makes, in order, and what it is to make of the files
pub record Command : Type 1 where
  pub meets : Fault → Type 0
  pub refuses : Option Files → Fault → Type 0
  pub order : List Asked
  pub makes : Files → Made → Type 0

-- ---- what is left on the desk

-- each of these files stands there, and every other one is as it was
pub record AreWritten (files : List (List ℕ × List ℕ)) (before after : Files) : Type 0 where
  pub each : AllByRecursion (λ file. after file.0 ≡ Some file.1) files
  pub elsewhere : (name : List ℕ) → AllByRecursion (λ file. name ≢ file.0) files → after name ≡ before name

-- what is left where something was made of the files that the desk held, and a store of it ended in a fault
abbrev pub LeavesStores : Command → Fault → Files → Files → Type 0
LeavesStores command fault before after = (made : Made) × command.makes before made × LeavesOf made.files fault before after

-- what a command that is refused for a fault leaves on the desk: nothing was stored, but for a store that failed, or where
-- memory was refused at a store; then those before it were
abbrev pub Leaves : Command → Fault → Files → Files → Type 0
Leaves command (fault.Write name) before after = LeavesStores command (fault.Write name) before after
Leaves command fault.OutOfMemory before after = (after ≡ before) ⊎ LeavesStores command fault.OutOfMemory before after
Leaves command fault before after = after ≡ before

-- ---- whole runs

-- the command did all that it does on the desk, and made this
pub record IsDone (command : Command) (made : Made) (run : Run) : Type 0 where
  pub files : Told run.before.files run.after.files (λ old new. command.makes old made × AreWritten made.files old new)
  pub calls : PutsOnRecord run.before.calls run.after.calls (λ calls. calls ≡ command.order)
  pub faultless : run.after.faults ≡ run.before.faults

-- a whole run: the files were stored, the lines were printed, and it ends so
pub record IsWhole (command : Command) (answer : Status) (run : Run) : Type 0 where
  pub made : Made
  pub ended : answer ≡ made.status
  pub done : IsDone command made run
  pub told : AreTold made.lines run

-- ---- runs that did not do all

-- a run whose lines were not printed whole
pub record IsUntold (command : Command) (run : Run) : Type 0 where
  pub made : Made
  pub done : IsDone command made run
  pub untold : AreUntold made.lines run

-- the refusals of the command
abbrev pub refusals_of : Command → Refusals
refusals_of command =
    record { meets = command.meets; refuses = command.refuses; order = command.order; leaves = Leaves command }

-- a run that did not do all: it is refused for a fault, or its lines were not printed
abbrev pub IsStopped : Command → Status → Run → Type 0
IsStopped command answer run =
    IsRefused (refusals_of command) answer run ⊎ ((answer ≡ status.WriteFault) × IsUntold command run)

-- ---- commands that release records

-- the statuses of a run that released records: all of them, or some were left as they are or left out
abbrev pub HasReleased : Status → Type 0
HasReleased answer = (answer ≡ status.Done) ⊎ (answer ≡ status.SomeUnresolved)

-- where the rules and the records that the desk held, in files of these names, have readings, and no fault is met, the records
-- are released, but for want of memory
abbrev pub IsReleaseComplete : List ℕ → List ℕ → Status → Run → Type 0
IsReleaseComplete rules records answer run = IfSome run.before.files (λ files. (survey : SurveyParts) (sheet : SheetParts)
    → HoldsRules (Some files) rules survey → HoldsRecords (Some files) records survey.fields sheet → IsFaultless run
    → HasReleased answer ⊎ (answer ≡ status.OutOfMemory))
