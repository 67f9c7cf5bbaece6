use Rattle.std.proofs.Common.{List, length, ap, ◌∙◌, subst, sym}
use Rattle.std.proofs.Math.ListN.{replicate}
use Rattle.edit_model.specs.Rows.{IsRow}
use Rattle.edit_model.specs.declared.field.Field.{Field}
use Rattle.edit_model.specs.declared.value.Value.{Value}
use Rattle.edit_model.specs.declared.value.Value.TheVariants.{Bad}
use Rattle.derivation.proofs.RefutationLaws.{row-no_values, values-are}
use Rattle.derivation.proofs.refuting.record_without_values.Goals as goal

pub new-requires : goal.new-requires
new-requires c =
    let fields = c.args.survey.now.fields in
    let items = c.in_ok-values.ensures.items_if_clones_equal (λ y e. e) ∙ ap (λ (fs : List Field). replicate (length fs) Bad) c.fields.ensures.fields
    ∙ values-are fields in
    subst (λ (vs : List Value). IsRow fields vs) (sym items) (row-no_values fields)

pub returns-clause-values : goal.returns-clause-values
returns-clause-values c =
    let fields = c.args.survey.now.fields in
    c.new.ensures ∙ c.in_ok-values.ensures.items_if_clones_equal (λ y e. e) ∙ ap (λ (fs : List Field). replicate (length fs) Bad) c.fields.ensures.fields
    ∙ values-are fields

pub returns-clause-row : goal.returns-clause-row
returns-clause-row c =
    let fields = c.args.survey.now.fields in
    let is = c.new.ensures ∙ c.in_ok-values.ensures.items_if_clones_equal (λ y e. e) ∙ ap (λ (fs : List Field). replicate (length fs) Bad)
    c.fields.ensures.fields ∙ values-are fields in
    subst (λ (vs : List Value). IsRow fields vs) (sym is) (row-no_values fields)
