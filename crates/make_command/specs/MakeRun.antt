-- What a run of the command `make` does.
use Rattle.std.specs.Prelude.{◌≡◌, ◌≢◌, ◌⊎◌, ⊤, ℕ, List, [], ◌∷◌, ◌++◌, Some, codes, decimal}
use Rattle.edit_desk.specs.Desk.{Asked, Files, PutsOnRecord, Told, stored}
use Rattle.edit_language.specs.Printing.{printed}
use Rattle.survey_maker.specs.RecordFiles.{record_file}
use Rattle.survey_maker.specs.SurveyMade.{survey_made}
use Rattle.command_words.specs.Asked.{MakeAsked}
use Rattle.run_parts.specs.Faults.{IsOfStores}
use Rattle.run_parts.specs.Run.{AreTold, AreUntold, IsFaultless, IsRefused, LeavesOf, Refusals, Run}
use Rattle.run_parts.specs.declared.status.Status.{Status}
use Rattle.run_parts.specs.declared.status.Status.TheVariants as status

-- all calls of the command, in order
abbrev pub make_calls : MakeAsked → List Asked
make_calls asked = stored asked.rules ∷ stored asked.records ∷ []

-- the files that it stores, in order: the rules of the survey, and so many records of it, which follow from the start
abbrev pub make_files : MakeAsked → List (List ℕ × List ℕ)
make_files asked = (asked.rules, printed survey_made) ∷ (asked.records, record_file asked.start asked.rows) ∷ []

-- the line that is printed of so many records
abbrev pub made_text : ℕ → List ℕ
made_text rows = codes "made rows " ++ decimal rows

-- both files stand there, and every other one is as it was
pub record AreMade (asked : MakeAsked) (before after : Files) : Type 0 where
  pub rules : after asked.rules ≡ Some (printed survey_made)
  pub records : after asked.records ≡ Some (record_file asked.start asked.rows)
  pub elsewhere : (name : List ℕ) → name ≢ asked.rules → name ≢ asked.records → after name ≡ before name

-- the command did all that it does on the desk
pub record IsMakeStored (asked : MakeAsked) (run : Run) : Type 0 where
  pub files : Told run.before.files run.after.files (AreMade asked)
  pub calls : PutsOnRecord run.before.calls run.after.calls (λ calls. calls ≡ make_calls asked)
  pub faultless : run.after.faults ≡ run.before.faults

-- a whole run: the survey was stored, and how many records it has was printed
pub record IsSurveyMade (asked : MakeAsked) (run : Run) : Type 0 where
  pub stored : IsMakeStored asked run
  pub told : AreTold (made_text asked.rows ∷ []) run

-- a run whose line was not printed whole
pub record IsMakeUntold (asked : MakeAsked) (run : Run) : Type 0 where
  pub stored : IsMakeStored asked run
  pub untold : AreUntold (made_text asked.rows ∷ []) run

-- the refusals of the command, whatever the desk held, since it reads nothing
abbrev pub make_refusals : MakeAsked → Refusals
make_refusals asked =
    record { meets = IsOfStores; refuses = λ files fault. ⊤; order = make_calls asked; leaves = LeavesOf (make_files asked) }

-- a run that did not do all: it is refused for a fault, or its line was not printed
abbrev pub IsMakeStopped : MakeAsked → Status → Run → Type 0
IsMakeStopped asked answer run =
    IsRefused (make_refusals asked) answer run ⊎ ((answer ≡ status.WriteFault) × IsMakeUntold asked run)

-- where no fault is met, the command is done, but for want of memory
abbrev pub IsMakeComplete : Status → Run → Type 0
IsMakeComplete answer run = IsFaultless run → (answer ≡ status.Done) ⊎ (answer ≡ status.OutOfMemory)
