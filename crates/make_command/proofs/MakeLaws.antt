-- What the command `make` leaves, and how its runs end.
use Rattle.std.proofs.Common.{◌≡◌, ◌≢◌, ◌∙◌, List, ℕ, [], ◌∷◌, ap, inl, inr, sym}
use Rattle.edit_desk.specs.Desk.{Files, PutsOnRecord, Told}
use Rattle.command_words.specs.Asked.{MakeAsked}
use Rattle.command_words.specs.FileNames.{AreApart, file_parts}
use Rattle.run_parts.specs.Faults.{IsOfStores, fault_status}
use Rattle.make_command.specs.MakeRun.{AreMade, IsMakeComplete, IsMakeStopped, IsMakeStored, IsSurveyMade, made_text, make_calls, make_files}
use Rattle.run_parts.specs.Run.{AreStored, Run, faults_by}
use Rattle.run_parts.specs.Parts.{IsTelling}
use Rattle.run_parts.specs.declared.fault.Fault.{Fault}
use Rattle.run_parts.specs.declared.fault.Fault.TheVariants as fault
use Rattle.run_parts.specs.declared.status.Status.{Status}
use Rattle.run_parts.specs.declared.status.Status.TheVariants as status
use Rattle.run_parts.proofs.FaultlessLaws.{memory-left, raised-more}
use Rattle.run_parts.proofs.InputLaws.{IsBeside}

-- where both files are stored, each stands there
pub all-made : (asked : MakeAsked) (old new : Files) → AreApart (asked.rules ∷ asked.records ∷ []) → AreStored (make_files asked) old new
    → AreMade asked old new
all-made asked old new apart (first, rules, (second, records, same)) =
    let now : (name : List ℕ) → new name ≡ second name = λ name. ap (λ (f : Files). f name) same in
    let rules-records : asked.rules ≢ asked.records = λ e. apart.0.0 (ap file_parts e) in
    record {
      rules = now asked.rules ∙ records.1 asked.rules rules-records ∙ rules.0;
      records = now asked.records ∙ records.0;
      elsewhere = λ name no_rules no_records. now name ∙ records.1 name no_records ∙ rules.1 name no_rules;
    }

-- a fault of a store says nothing of the files
stores-beside : (f : Fault) → IsOfStores f → IsBeside f
stores-beside (fault.Write name) kind = tt
stores-beside fault.OutOfMemory kind = tt
stores-beside f kind = absurd kind

module _ (asked : MakeAsked) (run : Run) where
  module _ (answer : Status)
      (telling : IsTelling status.Done (made_text asked.rows ∷ []) answer run.before.printed run.after.printed run.before.unprinted run.after.unprinted)
      (files : Told run.before.files run.after.files (AreMade asked))
      (calls : PutsOnRecord run.before.calls run.after.calls (λ calls. calls ≡ make_calls asked))
      (faults : run.after.faults ≡ run.before.faults) where
    all_stored : IsMakeStored asked run
    all_stored = record { files = files; calls = calls; faultless = faults }

    -- all was done, and the line was printed
    pub made-by : answer ≡ status.Done → IsSurveyMade asked run
    made-by done = by telling
      where
        by : IsTelling status.Done (made_text asked.rows ∷ []) answer run.before.printed run.after.printed run.before.unprinted run.after.unprinted
            → IsSurveyMade asked run
        by (inl (is, printed, told)) = record { stored = all_stored; told = record { printed = printed; unprinted = told } }
        by (inr (is, printed, told)) = absurd (cc (sym done ∙ is))

    -- or it was not
    pub unmade-by : (answer ≡ status.Done → ⊥) → IsMakeStopped asked answer run
    unmade-by not = by telling
      where
        by : IsTelling status.Done (made_text asked.rows ∷ []) answer run.before.printed run.after.printed run.before.unprinted run.after.unprinted
            → IsMakeStopped asked answer run
        by (inl (is, printed, told)) = absurd (not is)
        by (inr (is, printed, told)) = inr (is, record { stored = all_stored; untold = record { printed = printed; unprinted = told } })

-- a line that was not printed is a fault
pub told-complete : (texts : List (List ℕ)) (answer : Status) (run : Run)
    → IsTelling status.Done texts answer run.before.printed run.after.printed run.before.unprinted run.after.unprinted → IsMakeComplete answer run
told-complete texts answer run (inl (is, printed, told)) none = inl is
told-complete texts answer run (inr (is, printed, told)) none = absurd (raised-more run.before.unprinted none.place (sym told ∙ none.unprinted))

-- a refusal in a run without a fault is want of memory
pub make-refused : (f : Fault) (answer : Status) (run : Run) → answer ≡ fault_status f → IsOfStores f → run.after.faults ≡ faults_by f run.before.faults
    → IsMakeComplete answer run
make-refused f answer run is kind faults none = inr (is ∙ memory-left run f (stores-beside f kind) faults none)
