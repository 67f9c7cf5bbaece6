-- How whole runs of the command `rules` end.
use Rattle.std.proofs.Common.{◌≡◌, ◌∙◌, ℕ, List, IfSome, inl, inr, refl, sym}
use Rattle.edit_desk.specs.Desk.{PutsOnRecord}
use Rattle.command_words.specs.Asked.{RulesAsked}
use Rattle.run_parts.specs.Faults.{fault_status}
use Rattle.run_parts.specs.Readings.{RefusesRulesCommand}
use Rattle.rules_command.specs.RulesRun.{IsReport, IsReported, IsRuled, IsRulesComplete, IsRulesStopped, rules_calls}
use Rattle.run_parts.specs.Run.{Run, faults_by}
use Rattle.run_parts.specs.Parts.{IsTelling}
use Rattle.run_parts.specs.declared.fault.Fault.{Fault}
use Rattle.run_parts.specs.declared.status.Status.{Status}
use Rattle.run_parts.specs.declared.status.Status.TheVariants as status
use Rattle.run_parts.proofs.FaultlessLaws.{memory-left}
use Rattle.rules_command.proofs.RulesLaws.{rules-beside}
use Rattle.run_parts.proofs.ToldLaws.{each-told, from-told, same-told, where-told}

module _ (asked : RulesAsked) (run : Run) where
  module _ (texts : List (List ℕ)) (answer : Status)
      (telling : IsTelling status.Done texts answer run.before.printed run.after.printed run.before.unprinted run.after.unprinted)
      (report : IfSome run.before.files (λ o. IsReport asked o texts)) (files : run.after.files ≡ run.before.files)
      (calls : PutsOnRecord run.before.calls run.after.calls (λ calls. calls ≡ rules_calls asked))
      (faults : run.after.faults ≡ run.before.faults) where
    reported : IsReported asked texts run
    reported = record {
      files =
          from-told run.before.files run.after.files (λ old new h same. (same, h)) report
          (same-told run.before.files run.after.files (λ old new. new ≡ old) files (λ o. refl));
      calls = calls;
      faultless = faults;
    }

    -- the lines were printed
    pub ruled-by : answer ≡ status.Done → IsRuled asked run
    ruled-by done = by telling
      where
        by : IsTelling status.Done texts answer run.before.printed run.after.printed run.before.unprinted run.after.unprinted
            → IsRuled asked run
        by (inl (is, printed, told)) =
            record { texts = texts; reported = reported; told = record { printed = printed; unprinted = told } }
        by (inr (is, printed, told)) = absurd (cc (sym done ∙ is))

    -- or one was not
    pub unruled-by : (answer ≡ status.Done → ⊥) → IsRulesStopped asked answer run
    unruled-by not = by telling
      where
        by : IsTelling status.Done texts answer run.before.printed run.after.printed run.before.unprinted run.after.unprinted
            → IsRulesStopped asked answer run
        by (inl (is, printed, told)) = absurd (not is)
        by (inr (is, printed, told)) =
            inr (is, record { texts = texts; reported = reported; untold = record { printed = printed; unprinted = told } })

  -- a refusal of rules that have a reading, in a run without a fault, is want of memory
  pub rules-refused : (f : Fault) (answer : Status) → answer ≡ fault_status f → RefusesRulesCommand asked run.before.files f
      → run.after.faults ≡ faults_by f run.before.faults → IsRulesComplete asked answer run
  rules-refused f answer is cause faults =
      each-told run.before.files
      (λ o why survey held none. inr (is ∙ memory-left run f (rules-beside asked o survey held f why) faults none))
      (where-told run.before.files (λ o. RefusesRulesCommand asked o f) cause)
