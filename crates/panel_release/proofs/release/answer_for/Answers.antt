use Rattle.std.proofs.Common.{IfOk, subst}
use Rattle.std.proofs.lemmas.Result.{IfOk-weaker}
use Rattle.edit_report.specs.Ends.{IsEnd}
use Rattle.panel_link.specs.Answers.{IsLinked}
use Rattle.panel_link.specs.declared.linked.Linked.{Linked}
use Rattle.panel_release.specs.PanelReleases.{IsAnswerAmong, PanelCase, end_of}
use Rattle.panel_release.proofs.EndLaws.{answer-told, linked-answer}
use Rattle.panel_release.proofs.release.answer_for.Goals as goal

pub returns-clause-answer : goal.returns-clause-answer
returns-clause-answer g c =
    let survey = c.panel.inside.survey.now in
    subst (λ (p : PanelCase). IfOk c.link.result (IsAnswerAmong p.survey p.set c.args.budget c.args.row.now)) c.panel.view_is
    (linked-answer survey c.args.row.now c.panel.inside.set c.args.budget c.link.result c.link.ensures.exact c.link.ensures.says c.link.ensures.shown)

pub returns-clause-end : goal.returns-clause-end
returns-clause-end g c =
    let survey = c.panel.inside.survey.now in
    let fixed = c.panel.inside.set in
    subst (λ (p : PanelCase). IfOk c.link.result (λ answer. IsEnd p.survey.fields (end_of answer))) c.panel.view_is
    (IfOk-weaker c.link.result (IsLinked survey c.args.row.now fixed c.args.budget) (λ (answer : Linked). IsEnd survey.fields (end_of answer))
    (λ answer linked. answer-told survey c.args.row.now fixed c.args.budget answer linked) c.link.ensures.exact)
