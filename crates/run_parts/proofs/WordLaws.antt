-- Runs that are refused before anything is asked of the desk.
use Rattle.std.proofs.Common.{◌≡◌, ◌∙◌, ℕ, [], Option, Some, None, append-nil, subst, sym}
use Rattle.edit_desk.specs.Desk.{Files, Told}
use Rattle.run_parts.specs.Faults.{fault_status, fault_text}
use Rattle.run_parts.specs.Run.{AreCallsTo, IsLinePrinted, IsRefused, Refusals, Run, faults_by}
use Rattle.run_parts.specs.declared.fault.Fault.{Fault}
use Rattle.run_parts.specs.declared.status.Status.{Status}

module _ {A : Type 0} where
  -- what is told of something that did not change
  told-once : (a : Option A) (P : A → A → Type 0) → ((x : A) → P x x) → Told a a P
  told-once None P each = tt
  told-once (Some x) P each = each x

  pub told-same : (old new : Option A) (P : A → A → Type 0) → new ≡ old → ((x : A) → P x x) → Told old new P
  told-same old new P same each = subst (λ (now : Option A). Told old now P) (sym same) (told-once old P each)

-- the desk was asked for nothing
pub record IsUntouched (run : Run) : Type 0 where
  pub files : run.after.files ≡ run.before.files
  pub calls : run.after.calls ≡ run.before.calls
  pub faults : run.after.faults ≡ run.before.faults

-- such a run is refused by its command for any fault that it may meet there
pub untouched-refused : (command : Refusals) (fault : Fault) (answer : Status) (run : Run) → IsUntouched run → IsLinePrinted (fault_text fault) run
    → answer ≡ fault_status fault → command.meets fault → ((files : Option Files) → command.refuses files fault)
    → AreCallsTo command.order fault [] → ((files : Files) → command.leaves fault files files)
    → ((count : ℕ) → faults_by fault count ≡ count) → IsRefused command answer run
untouched-refused command fault answer run untouched printed ended met called none left counted = record {
  fault = fault;
  status = ended;
  kind = met;
  cause = called run.before.files;
  calls = told-same run.before.calls run.after.calls _ untouched.calls (λ calls. ([], sym (append-nil calls), none));
  files = told-same run.before.files run.after.files (command.leaves fault) untouched.files left;
  faults = untouched.faults ∙ sym (counted run.before.faults);
  printed = printed;
}
