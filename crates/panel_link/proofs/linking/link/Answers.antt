use Rattle.std.proofs.Common.{◌≡◌, ◌↔◌, Bool, true, ap, refl, sym, subst, ◌∙◌}
use Rattle.std.specs.Arc.{arc_value}
use Rattle.std.proofs.lemmas.Result.{IfOk-weaker}
use Rattle.edit_line.specs.EditSets.{EditsParts}
use Rattle.edit_model.specs.Points.{Point}
use Rattle.edit_paths.specs.Cases.{Meets, case_of}
use Rattle.edit_paths.specs.Outcomes.{outcome_of}
use Rattle.panel_link.specs.Answers.{FollowsOn, IsLinked, IsLinkedWith, IsOnlyAnswer}
use Rattle.panel_link.specs.Laws.{IsShown, Says}
use Rattle.panel_link.specs.LinkedCorrections.{IsLinkedCorrection, lacks_value}
use Rattle.panel_link.specs.declared.linked.Linked.{Linked}
use Rattle.panel_link.specs.declared.linked.Linked.TheVariants as linked
use Rattle.panel_link.proofs.AnswerLaws.{linked-answer, no-last}
use Rattle.panel_link.proofs.PinLaws.{edits-tell}
use Rattle.panel_link.proofs.linking.link.Goals as goal

pub search-requires-clause-shape : goal.search-requires-clause-shape
search-requires-clause-shape g c = ap (λ (e : EditsParts). e.shape) c.in_ok-edits.ensures

pub search-requires-clause-told : goal.search-requires-clause-told
search-requires-clause-told g c = (
  c.args.fixed,
  λ (p : Point). subst (λ (e : EditsParts). Meets (case_of c.args.survey.now e c.args.row.now) p
      ↔ IsLinkedCorrection c.args.survey.now c.args.row.now c.args.fixed p)
      (sym c.in_ok-edits.ensures)
      (edits-tell c.args.survey.now c.args.row.now c.args.fixed c.requires.row (sym c.lacks_value.ensures ∙ c.if-lacks_value.false)
      c.fields-fields.ensures.well_formed p),
)

-- ---- some fixed field has no value

pub returns-then-lacks_value-clause-exact : goal.returns-then-lacks_value-clause-exact
returns-then-lacks_value-clause-exact g c =
    subst (λ (b : Bool). IsLinkedWith b c.args.survey.now c.args.row.now c.args.fixed c.args.budget linked.NoLast)
    (sym (sym c.lacks_value.ensures ∙ c.if-lacks_value.true)) refl

pub returns-then-lacks_value-clause-due : goal.returns-then-lacks_value-clause-due
returns-then-lacks_value-clause-due g c = λ due also.
    subst (λ (b : Bool). IsLinkedWith b c.args.survey.now c.args.row.now c.args.fixed c.args.budget due → linked.NoLast ≡ due)
    (sym (sym c.lacks_value.ensures ∙ c.if-lacks_value.true)) (λ told. sym told) also

pub returns-then-lacks_value-clause-no_last : goal.returns-then-lacks_value-clause-no_last
returns-then-lacks_value-clause-no_last g c = (λ _. sym c.lacks_value.ensures ∙ c.if-lacks_value.true, λ _. refl)

pub returns-then-lacks_value-clause-says : goal.returns-then-lacks_value-clause-says
returns-then-lacks_value-clause-says g c = sym c.lacks_value.ensures ∙ c.if-lacks_value.true

-- ---- each has one

pub returns-clause-exact : goal.returns-clause-exact
returns-clause-exact g c =
    let survey = c.args.survey.now in
    let row = c.args.row.now in
    let edits = arc_value c.in_ok-edits.edits in
    IfOk-weaker c.search.result (FollowsOn survey edits row (outcome_of (case_of survey edits row) c.args.budget))
    (IsLinked survey row c.args.fixed c.args.budget)
    (linked-answer survey row c.args.fixed c.args.budget edits c.in_ok-edits.ensures (sym c.lacks_value.ensures ∙ c.if-lacks_value.false))
    c.search.ensures.follows

pub returns-clause-due : goal.returns-clause-due
returns-clause-due g c =
    let survey = c.args.survey.now in
    let row = c.args.row.now in
    IfOk-weaker c.search.result (IsLinked survey row c.args.fixed c.args.budget) (IsOnlyAnswer survey row c.args.fixed c.args.budget)
    (λ answer is due also. c.panel_laws.ensures.one survey row c.args.fixed c.args.budget due answer c.fields-fields.ensures.well_formed c.requires.row also is)
    (returns-clause-exact g c)

pub returns-clause-no_last : goal.returns-clause-no_last
returns-clause-no_last g c =
    let survey = c.args.survey.now in
    let row = c.args.row.now in
    IfOk-weaker c.search.result (IsLinked survey row c.args.fixed c.args.budget)
    (λ (answer : Linked). (answer ≡ linked.NoLast) ↔ (lacks_value survey row c.args.fixed ≡ true))
    (λ answer is. no-last survey row c.args.fixed c.args.budget answer is) (returns-clause-exact g c)

pub returns-clause-says : goal.returns-clause-says
returns-clause-says g c =
    let survey = c.args.survey.now in
    let row = c.args.row.now in
    IfOk-weaker c.search.result (IsLinked survey row c.args.fixed c.args.budget) (Says survey row c.args.fixed)
    (λ answer is. (c.panel_laws.ensures.linked survey row c.args.fixed c.args.budget answer c.fields-fields.ensures.well_formed c.requires.row is).0)
    (returns-clause-exact g c)

pub returns-clause-shown : goal.returns-clause-shown
returns-clause-shown g c =
    let survey = c.args.survey.now in
    let row = c.args.row.now in
    IfOk-weaker c.search.result (IsLinked survey row c.args.fixed c.args.budget) (IsShown survey row c.args.fixed)
    (λ answer is. (c.panel_laws.ensures.linked survey row c.args.fixed c.args.budget answer c.fields-fields.ensures.well_formed c.requires.row is).1)
    (returns-clause-exact g c)
