use Rattle.std.proofs.Common.{◌≡◌, None, subst, sym}
use Rattle.edit_model.specs.Parts.{SurveyParts, survey_of}
use Rattle.rule_grammar.specs.declared.statement.Statement.TheVariants as statement
use Rattle.edit_language.specs.inner.FirstFault.{declaration_fault}
use Rattle.edit_language.proofs.SurveyLaws.{extended_well_formed}
use Rattle.edit_language.proofs.draft.Draft.add_field.Goals as goal

pub invariant_of-self-2 : goal.invariant_of-self-2
invariant_of-self-2 c =
    let survey : SurveyParts = survey_of c.self.inside.fields.items c.self.inside.rules.items in
    let faultless : declaration_fault survey c.args.declaration ≡ None =
    subst (λ (s : SurveyParts). declaration_fault s c.args.declaration ≡ None) (sym c.self.view_is) c.requires.faultless in
    rw (c.in_ok-push.ensures.items, c.in_ok-field_of.ensures)
    (extended_well_formed survey (statement.Declaration c.args.declaration) c.self.invariant c.requires.names faultless)
