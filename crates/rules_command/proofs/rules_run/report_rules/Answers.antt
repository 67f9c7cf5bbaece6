use Rattle.std.proofs.Common.{IfSome, subst}
use Rattle.edit_desk.specs.Desk.{PutsOnRecord}
use Rattle.command_words.specs.Asked.{RulesAsked}
use Rattle.run_parts.specs.Readings.{AnswersDue, HoldsRules, IsRulesDue}
use Rattle.run_parts.specs.Run.{AreCallsTo}
use Rattle.rules_command.specs.RulesRun.{rules_calls}
use Rattle.run_parts.specs.declared.fault.Fault.TheVariants as fault
use Rattle.run_parts.specs.declared.status.Status.TheVariants as status
use Rattle.command_words.proofs.AskedLaws.{rules_of}
use Rattle.run_parts.proofs.CallLaws.{less-calls}
use Rattle.rules_command.proofs.RulesLaws.{read-rules-due}
use Rattle.run_parts.proofs.ToldLaws.{each-told, where-told}
use Rattle.rules_command.proofs.rules_run.report_rules.Goals as goal

pub returns-in_default-clause-asked : goal.returns-in_default-clause-asked
returns-in_default-clause-asked g c =
    rw c.out_of_memory.ensures
    (subst (λ (a : RulesAsked). PutsOnRecord (g.D.Desk.calls c.args.desk.now) (g.D.Desk.calls c.fetch_survey.new.desk)
    (AreCallsTo (rules_calls a) fault.OutOfMemory)) c.asked.view_is
    (less-calls (g.D.Desk.calls c.args.desk.now) _ (AreCallsTo (rules_calls (rules_of c.asked.inside.rules.now)) fault.OutOfMemory) (λ x e. (1, e))
    c.in_ok-survey.ensures.asked))

pub returns-clause-due : goal.returns-clause-due
returns-clause-due g c =
    subst (λ (a : RulesAsked). IfSome (g.D.Desk.files c.args.desk.now) (λ o. AnswersDue (IsRulesDue a o) status.Done)) c.asked.view_is
    (each-told (g.D.Desk.files c.args.desk.now) (λ o held. read-rules-due (rules_of c.asked.inside.rules.now) o c.in_ok-survey.survey held status.Done)
    (where-told (g.D.Desk.files c.args.desk.now) (λ o. HoldsRules o c.asked.inside.rules.now c.in_ok-survey.survey) c.in_ok-survey.ensures.read))
