use Rattle.std.proofs.Common.{◌≡◌, IfOk, List, [], ap, subst, sym, ◌∙◌}
use Rattle.edit_model.specs.Parts.{SurveyParts, survey_of}
use Rattle.edit_model.specs.Surveys.{IsWellFormed}
use Rattle.edit_model.specs.declared.field.Field.{Field}
use Rattle.edit_model.specs.declared.rule.Rule.{Rule}
use Rattle.panel_files.proofs.PartLaws.{own-all, own-more, own-well-formed}
use Rattle.panel_files.specs.LastFields.{own_fields}
use Rattle.panel_files.proofs.surveys.own_survey.Goals as goal

pub loop-number-preserved : goal.loop-number-preserved
loop-number-preserved c =
    own-more c.args.set c.loop-number.number c.fields-field-items.result.now c.field-item.result c.loop-number-test.true c.field-item.is
    c.has.result c.loop-number.fields.items c.push_own.new.fields.items (own_fields c.fields-field-items.result.now c.args.set)
    c.has.ensures (c.in_ok-push_own.ensures) c.loop-number.invariant

-- the fields that are put together
fields-are : (c : goal.After-new) → c.loop-number.fields.items ≡ own_fields c.args.survey.now.fields c.args.set
fields-are c =
    let fields = c.fields-field-items.result.now in
    own-all c.args.set c.loop-number.number fields c.loop-number.fields.items (own_fields fields c.args.set) c.loop-number-test.false c.loop-number.invariant
    ∙ ap (λ (fs : List Field). own_fields fs c.args.set) c.fields-field-items.ensures.fields

-- the survey that they make
parts-are : (c : goal.After-new)
    → survey_of c.loop-number.fields.items c.new.result.items ≡ survey_of (own_fields c.args.survey.now.fields c.args.set) []
parts-are c =
    ap (λ (fs : List Field). survey_of fs c.new.result.items) (fields-are c)
    ∙ ap (λ (rs : List Rule). survey_of (own_fields c.args.survey.now.fields c.args.set) rs) c.new.ensures.items

pub of-requires : goal.of-requires
of-requires c =
    let of = c.fields-field-items.ensures.well_formed in
    subst IsWellFormed (sym (parts-are c)) (own-well-formed c.args.survey.now.fields c.args.set of.few_fields of.names of.fields)

pub returns-clause-own : goal.returns-clause-own
returns-clause-own c = subst (λ (parts : SurveyParts). IfOk c.of.result (λ survey. survey ≡ parts)) (parts-are c.before) c.of.ensures
