use Rattle.std.proofs.Common.{◌≡◌, ◌++◌, IfSome, length, subst, take}
use Rattle.edit_desk.specs.Desk.{PutsOnRecord}
use Rattle.command_words.specs.Asked.{PageAsked}
use Rattle.command_words.specs.declared.page_words.PageWords.TheInside.{Inside}
use Rattle.command_words.proofs.AskedLaws.{page_of}
use Rattle.run_parts.specs.Faults.{fault_status}
use Rattle.run_parts.specs.Readings.{AnswersDue, HoldsRecords, HoldsRules, RefusesInput}
use Rattle.run_parts.specs.Run.{AreCallsTo}
use Rattle.run_parts.proofs.CallLaws.{all-calls, input-calls, less-calls}
use Rattle.run_parts.proofs.ToldLaws.{both-told, each-told, handed, where-told}
use Rattle.page_command.specs.PageFaults.{IsPageDue, RefusesPage}
use Rattle.page_command.specs.PageRun.{page_calls}
use Rattle.page_command.specs.inner.PageParts.{AreCallsBefore, AreNoReasonLines, AreNoReleased, Refuses, RefusesFile, refusal_status}
use Rattle.page_command.proofs.DueLaws.{input_refused, reasons_refused, released_refused}
use Rattle.page_command.proofs.RefusalLaws.{behind_input, input-cause, input_of, of-file, reasons-calls, reasons-cause, reasons-faults}
use Rattle.page_command.proofs.RefusalLaws.{reasons_of, released-calls, released-cause, released_of}
use Rattle.page_command.proofs.sources.fetch_sources.Goals as goal

-- what these words ask for
abbrev asked_in : Inside → PageAsked
asked_in w = page_of w.rules.now w.records.now w.released.now w.reasons.now w.page.now

-- ---- the rules or the records are refused

pub returns-in_err-survey-clause-cause : goal.returns-in_err-survey-clause-cause
returns-in_err-survey-clause-cause g c =
    let f = c.in_err-survey.field-0.0 in
    let before = g.D.Desk.files c.args.desk.now in
    rw (handed c.from_residual.result _ c.from_residual.ensures.1)
    (subst (λ (a : PageAsked). RefusesPage a before f) c.asked.view_is
    (input-cause (asked_in c.asked.inside) before f c.in_err-survey.ensures.cause))

pub returns-in_err-survey-clause-due : goal.returns-in_err-survey-clause-due
returns-in_err-survey-clause-due g c =
    let f = c.in_err-survey.field-0.0 in
    let w = c.asked.inside in
    let before = g.D.Desk.files c.args.desk.now in
    rw (handed c.from_residual.result _ c.from_residual.ensures.1)
    (subst (λ (a : PageAsked). IfSome before (λ o. AnswersDue (IsPageDue a o) (fault_status f))) c.asked.view_is
    (both-told before (λ o why answers. input_refused (asked_in w) o f c.in_err-survey.ensures.kind why answers)
    (where-told before (λ o. RefusesInput w.rules.now w.records.now o f) c.in_err-survey.ensures.cause) c.in_err-survey.ensures.due))

pub returns-in_err-survey-clause-asked : goal.returns-in_err-survey-clause-asked
returns-in_err-survey-clause-asked g c =
    let f = c.in_err-survey.field-0.0 in
    let w = c.asked.inside in
    let before = g.D.Desk.calls c.args.desk.now in
    rw (handed c.from_residual.result _ c.from_residual.ensures.1)
    (subst (λ (a : PageAsked). PutsOnRecord before (g.D.Desk.calls c.fetch_input.new.desk) (AreCallsTo (page_calls a) f)) c.asked.view_is
    (less-calls before _ (AreCallsTo (page_calls (asked_in w)) f)
    (λ calls h. input-calls w.rules.now w.records.now (behind_input (asked_in w)) calls f c.in_err-survey.ensures.kind h)
    c.in_err-survey.ensures.asked))

-- ---- the released file is refused

pub returns-in_err-released-clause-kind : goal.returns-in_err-released-clause-kind
returns-in_err-released-clause-kind g c =
    rw (handed c.from_residual-in_err-released.result _ c.from_residual-in_err-released.ensures.1)
    (of-file c.asked.inside.released.now (g.D.Desk.files c.fetch_input.new.desk) (AreNoReleased c.in_ok-survey.survey.fields)
    c.in_err-released.field-0.0 c.in_err-released.ensures.cause)

pub returns-in_err-released-clause-cause : goal.returns-in_err-released-clause-cause
returns-in_err-released-clause-cause g c =
    let r = c.in_err-released.field-0.0 in
    let before = g.D.Desk.files c.args.desk.now in
    rw (handed c.from_residual-in_err-released.result _ c.from_residual-in_err-released.ensures.1)
    (subst (λ (a : PageAsked). Refuses a before r) c.asked.view_is
    (released-cause (asked_in c.asked.inside) before c.in_ok-survey.survey c.in_ok-survey.records c.in_ok-survey.ensures.rules
    c.in_ok-survey.ensures.records r (rw c.in_ok-survey.ensures.unchanged at c.in_err-released.ensures.cause)))

pub returns-in_err-released-clause-due : goal.returns-in_err-released-clause-due
returns-in_err-released-clause-due g c =
    let r = c.in_err-released.field-0.0 in
    let asked = asked_in c.asked.inside in
    let survey = c.in_ok-survey.survey in
    let records = c.in_ok-survey.records in
    let before = g.D.Desk.files c.args.desk.now in
    rw (handed c.from_residual-in_err-released.result _ c.from_residual-in_err-released.ensures.1)
    (subst (λ (a : PageAsked). IfSome before (λ o. AnswersDue (IsPageDue a o) (refusal_status r))) c.asked.view_is
    (each-told before (λ o h. released_refused asked o survey records h.0 h.1 r h.2)
    (where-told before
    (λ o. HoldsRules o asked.rules survey × HoldsRecords o asked.records survey.fields records
    × RefusesFile asked.released o (AreNoReleased survey.fields) r)
    (c.in_ok-survey.ensures.rules, c.in_ok-survey.ensures.records, rw c.in_ok-survey.ensures.unchanged at c.in_err-released.ensures.cause))))

pub returns-in_err-released-clause-asked : goal.returns-in_err-released-clause-asked
returns-in_err-released-clause-asked g c =
    let r = c.in_err-released.field-0.0 in
    let asked = asked_in c.asked.inside in
    let before = g.D.Desk.calls c.args.desk.now in
    rw (handed c.from_residual-in_err-released.result _ c.from_residual-in_err-released.ensures.1)
    (subst (λ (a : PageAsked). PutsOnRecord before (g.D.Desk.calls c.fetch_released.new.desk) (AreCallsBefore a r)) c.asked.view_is
    (released-calls asked before _ _ (g.D.Desk.files c.fetch_input.new.desk) c.in_ok-survey.survey r c.in_err-released.ensures.cause
    c.in_ok-survey.ensures.asked c.in_err-released.ensures.asked))

-- ---- the reasons are refused

pub returns-in_err-reasons-clause-kind : goal.returns-in_err-reasons-clause-kind
returns-in_err-reasons-clause-kind g c =
    rw (handed c.from_residual-in_err-reasons.result _ c.from_residual-in_err-reasons.ensures.1)
    (of-file c.asked.inside.reasons.now (g.D.Desk.files c.fetch_released.new.desk)
    (AreNoReasonLines c.in_ok-survey.survey.fields c.len.result) c.in_err-reasons.field-0.0 c.in_err-reasons.ensures.cause)

pub returns-in_err-reasons-clause-cause : goal.returns-in_err-reasons-clause-cause
returns-in_err-reasons-clause-cause g c =
    let r = c.in_err-reasons.field-0.0 in
    let before = g.D.Desk.files c.args.desk.now in
    rw (handed c.from_residual-in_err-reasons.result _ c.from_residual-in_err-reasons.ensures.1)
    (subst (λ (a : PageAsked). Refuses a before r) c.asked.view_is
    (reasons-cause (asked_in c.asked.inside) before c.in_ok-survey.survey c.in_ok-survey.records c.in_ok-survey.ensures.rules
    c.in_ok-survey.ensures.records c.in_ok-released.released (rw c.in_ok-survey.ensures.unchanged at c.in_ok-released.ensures.read) r
    (rw (c.len.ensures.rows, c.in_ok-released.ensures.unchanged, c.in_ok-survey.ensures.unchanged) at c.in_err-reasons.ensures.cause)))

pub returns-in_err-reasons-clause-due : goal.returns-in_err-reasons-clause-due
returns-in_err-reasons-clause-due g c =
    let r = c.in_err-reasons.field-0.0 in
    let asked = asked_in c.asked.inside in
    let survey = c.in_ok-survey.survey in
    let records = c.in_ok-survey.records in
    let released = c.in_ok-released.released in
    let before = g.D.Desk.files c.args.desk.now in
    rw (handed c.from_residual-in_err-reasons.result _ c.from_residual-in_err-reasons.ensures.1)
    (subst (λ (a : PageAsked). IfSome before (λ o. AnswersDue (IsPageDue a o) (refusal_status r))) c.asked.view_is
    (each-told before (λ o h. reasons_refused asked o survey records h.0 h.1 released h.2 r h.3)
    (where-told before
    (λ o. HoldsRules o asked.rules survey × HoldsRecords o asked.records survey.fields records
    × HoldsRecords o asked.released survey.fields released
    × RefusesFile asked.reasons o (AreNoReasonLines survey.fields (length records.rows)) r) (
      c.in_ok-survey.ensures.rules,
      c.in_ok-survey.ensures.records,
      rw c.in_ok-survey.ensures.unchanged at c.in_ok-released.ensures.read,
      rw (c.len.ensures.rows, c.in_ok-released.ensures.unchanged, c.in_ok-survey.ensures.unchanged) at c.in_err-reasons.ensures.cause,
    ))))

pub returns-in_err-reasons-clause-asked : goal.returns-in_err-reasons-clause-asked
returns-in_err-reasons-clause-asked g c =
    let r = c.in_err-reasons.field-0.0 in
    let asked = asked_in c.asked.inside in
    let before = g.D.Desk.calls c.args.desk.now in
    rw (handed c.from_residual-in_err-reasons.result _ c.from_residual-in_err-reasons.ensures.1)
    (subst (λ (a : PageAsked). PutsOnRecord before (g.D.Desk.calls c.fetch_reasons.new.desk) (AreCallsBefore a r)) c.asked.view_is
    (reasons-calls asked before _ _ (g.D.Desk.files c.fetch_released.new.desk) c.in_ok-survey.survey c.len.result r
    c.in_err-reasons.ensures.cause (all-calls before _ _ (input_of asked) (released_of asked) c.in_ok-survey.ensures.asked
    c.in_ok-released.ensures.asked) c.in_err-reasons.ensures.asked))

pub returns-in_err-reasons-clause-faults : goal.returns-in_err-reasons-clause-faults
returns-in_err-reasons-clause-faults g c =
    rw (handed c.from_residual-in_err-reasons.result _ c.from_residual-in_err-reasons.ensures.1)
    (reasons-faults c.in_err-reasons.field-0.0 _ _ _ _ c.in_ok-survey.ensures.faults c.in_ok-released.ensures.faults
    c.in_err-reasons.ensures.faults)

-- ---- all was read

pub returns-clause-asked : goal.returns-clause-asked
returns-clause-asked g c =
    let asked = asked_in c.asked.inside in
    let before = g.D.Desk.calls c.args.desk.now in
    subst (λ (a : PageAsked). PutsOnRecord before (g.D.Desk.calls c.fetch_reasons.new.desk) (λ calls. calls ≡ take 4 (page_calls a)))
    c.asked.view_is
    (all-calls before _ _ (input_of asked ++ released_of asked) (reasons_of asked)
    (all-calls before _ _ (input_of asked) (released_of asked) c.in_ok-survey.ensures.asked c.in_ok-released.ensures.asked)
    c.in_ok-reasons.ensures.asked)
