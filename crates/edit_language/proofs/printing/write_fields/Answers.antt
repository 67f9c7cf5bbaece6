use Rattle.std.proofs.Common.{[], ◌∷◌, ◌++◌}
use Rattle.std.proofs.lemmas.Result.{IfOk-from_err}
use Rattle.edit_model.specs.declared.field.Field.{Field}
use Rattle.edit_language.specs.Printing.{field_line}
use Rattle.edit_language.proofs.PrintingSteps.{line_more, text_all}
use Rattle.edit_language.proofs.printing.write_fields.Goals as goal

pub returns-in_err-write_field : goal.returns-in_err-write_field
returns-in_err-write_field c = IfOk-from_err _ _ c.from_residual.ensures.0

pub returns-in_err-push : goal.returns-in_err-push
returns-in_err-push c = IfOk-from_err _ _ c.from_residual-in_err-push.ensures.0

pub loop-field-preserved : goal.loop-field-preserved
loop-field-preserved c =
    line_more field_line _ c.args.fields.now _ c.field-item.result _ _ _ c.loop-field-test.true c.field-item.is
    c.loop-field.invariant c.in_ok-write_field.ensures c.in_ok-push.ensures.items

pub returns : goal.returns
returns c = text_all (λ (f : Field). field_line f ++ 10 ∷ []) _ _ _ _ c.loop-field-test.false c.loop-field.invariant
