-- How whole runs of a check end.
use Rattle.std.proofs.Common.{◌≡◌, ◌∙◌, ℕ, List, [], ◌∷◌, inl, inr, refl, sym}
use Rattle.edit_desk.specs.Desk.{PutsOnRecord}
use Rattle.command_words.specs.Asked.{CheckAsked}
use Rattle.check_command.specs.CheckRun.{IsCheckComplete, IsCheckStopped, IsChecked, IsRead, check_calls}
use Rattle.run_parts.specs.Faults.{fault_status}
use Rattle.run_parts.specs.Readings.{RefusesCheck}
use Rattle.run_parts.specs.Run.{Run, faults_by}
use Rattle.check_command.specs.inner.CheckParts.{Accepts}
use Rattle.run_parts.specs.Parts.{IsTelling}
use Rattle.run_parts.specs.declared.fault.Fault.{Fault}
use Rattle.run_parts.specs.declared.status.Status.{Status}
use Rattle.run_parts.specs.declared.status.Status.TheVariants as status
use Rattle.check_command.proofs.AuditLaws.{valid-beside}
use Rattle.run_parts.proofs.FaultlessLaws.{memory-left}
use Rattle.run_parts.proofs.ToldLaws.{each-told, from-told, same-told, where-told}

module _ (asked : CheckAsked) (run : Run) where
  module _ (line : List ℕ) (answer : Status)
      (telling : IsTelling status.Done (line ∷ []) answer run.before.printed run.after.printed run.before.unprinted run.after.unprinted)
      (accepts : Accepts asked run.before.files line) (files : run.after.files ≡ run.before.files)
      (calls : PutsOnRecord run.before.calls run.after.calls (λ calls. calls ≡ check_calls asked))
      (faults : run.after.faults ≡ run.before.faults) where
    read : IsRead asked accepts.0 accepts.1 run
    read = record {
      files =
          from-told run.before.files run.after.files (λ old new h same. (same, h)) accepts.3
          (same-told run.before.files run.after.files (λ old new. new ≡ old) files (λ o. refl));
      calls = calls;
      faultless = faults;
    }

    -- the files were accepted, and that was printed
    pub checked-by : answer ≡ status.Done → IsChecked asked run
    checked-by done = by telling
      where
        by : IsTelling status.Done (line ∷ []) answer run.before.printed run.after.printed run.before.unprinted run.after.unprinted
            → IsChecked asked run
        by (inl (is, printed, told)) = record {
          records = accepts.0;
          released = accepts.1;
          read = read;
          told = rw (← accepts.2) (record { printed = printed; unprinted = told });
        }
        by (inr (is, printed, told)) = absurd (cc (sym done ∙ is))

    -- or it was not
    pub unchecked-by : (answer ≡ status.Done → ⊥) → IsCheckStopped asked answer run
    unchecked-by not = by telling
      where
        by : IsTelling status.Done (line ∷ []) answer run.before.printed run.after.printed run.before.unprinted run.after.unprinted
            → IsCheckStopped asked answer run
        by (inl (is, printed, told)) = absurd (not is)
        by (inr (is, printed, told)) = inr (
          is,
          record {
            records = accepts.0;
            released = accepts.1;
            read = read;
            untold = rw (← accepts.2) (record { printed = printed; unprinted = told });
          },
        )

  -- a refusal of a valid release, in a run without a fault, is want of memory
  pub check-refused : (f : Fault) (answer : Status) → answer ≡ fault_status f → RefusesCheck asked run.before.files f
      → run.after.faults ≡ faults_by f run.before.faults → IsCheckComplete asked answer run
  check-refused f answer is cause faults =
      each-told run.before.files
      (λ o why audit held valid none. inr (is ∙ memory-left run f (valid-beside asked o audit held f valid why) faults none))
      (where-told run.before.files (λ o. RefusesCheck asked o f) cause)
