use Rattle.std.proofs.Common.{◌≡◌, None, subst, sym}
use Rattle.edit_model.specs.Parts.{SurveyParts, survey_of}
use Rattle.rule_grammar.specs.declared.statement.Statement.TheVariants as statement
use Rattle.edit_language.specs.inner.FirstFault.{rule_fault}
use Rattle.edit_language.proofs.SurveyLaws.{extended_well_formed}
use Rattle.edit_language.proofs.draft.Draft.add_rule.Goals as goal

pub invariant_of-self-2 : goal.invariant_of-self-2
invariant_of-self-2 c =
    let survey : SurveyParts = survey_of c.self.inside.fields.items c.self.inside.rules.items in
    let faultless : rule_fault survey c.args.rule.now ≡ None =
    subst (λ (s : SurveyParts). rule_fault s c.args.rule.now ≡ None) (sym c.self.view_is) c.requires in
    rw (c.in_ok-push.ensures.items, c.in_ok-made.ensures, c.as_slice.ensures.value)
    (extended_well_formed survey (statement.Rule c.args.rule.now) c.self.invariant tt faultless)
