use Rattle.std.proofs.Common.{◌∙◌, ap, sym}
use Rattle.edit_model.specs.Corrections.{is_numerical}
use Rattle.edit_model.specs.declared.field.Field.{Field}
use Rattle.edit_command.proofs.ClassLaws.{named_class, numerical_lacks}
use Rattle.edit_command.proofs.class_field.categorical_field.Goals as goal

pub returns-then-is_numerical-clause-none : goal.returns-then-is_numerical-clause-none
returns-then-is_numerical-clause-none c =
    numerical_lacks c.args.survey.now.fields c.args.name.now c.fields.ensures.well_formed.names c.in_ok-number.number c.index-fields-number.result
    (rw c.fields.ensures.fields at c.index-fields-number.is) (rw c.as_bytes.ensures.value at c.in_ok-number.ensures.found)
    (ap (λ (f : Field). is_numerical f.kind) c.index-fields-number.is ∙ sym c.is_numerical.ensures ∙ c.if-is_numerical.true)

pub returns-clause-found : goal.returns-clause-found
returns-clause-found c =
    named_class c.args.survey.now.fields c.args.name.now c.in_ok-number.number c.index-fields-number.result
    (rw c.fields.ensures.fields at c.index-fields-number.is) (rw c.as_bytes.ensures.value at c.in_ok-number.ensures.found)
    (ap (λ (f : Field). is_numerical f.kind) c.index-fields-number.is ∙ sym c.is_numerical.ensures ∙ c.if-is_numerical.false)
