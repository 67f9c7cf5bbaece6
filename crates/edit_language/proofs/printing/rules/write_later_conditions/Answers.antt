use Rattle.std.proofs.Common.{◌++◌, ℕ, List, ap, ◌∙◌, append_assoc}
use Rattle.std.specs.Prelude.{codes}
use Rattle.std.proofs.lemmas.Result.{IfOk-from_err}
use Rattle.edit_model.specs.declared.rule.Test.{Test}
use Rattle.edit_language.specs.Printing.{test_text}
use Rattle.edit_language.proofs.PrintingSteps.{text_all, text_more}
use Rattle.edit_language.proofs.printing.rules.write_later_conditions.Goals as goal

pub returns-in_err-extend_from_slice : goal.returns-in_err-extend_from_slice
returns-in_err-extend_from_slice c = IfOk-from_err _ _ c.from_residual.ensures.0

pub returns-in_err-write_test : goal.returns-in_err-write_test
returns-in_err-write_test c = IfOk-from_err _ _ c.from_residual-in_err-write_test.ensures.0

pub loop-condition-preserved : goal.loop-condition-preserved
loop-condition-preserved c =
    let condition = c.condition-item.result in
    let line = test_text c.args.fields.now condition in
    let step = c.in_ok-write_test.ensures ∙ ap (λ (t : List ℕ). t ++ line) c.in_ok-extend_from_slice.ensures.items ∙
    append_assoc c.loop-condition.text.items (codes " and ") line in
    text_more (λ (t : Test). codes " and " ++ test_text c.args.fields.now t)
    _ c.args.conditions.now _ condition _ _ c.loop-condition-test.true c.condition-item.is c.loop-condition.invariant step

pub returns : goal.returns
returns c = text_all (λ (t : Test). codes " and " ++ test_text c.args.fields.now t) _ _ _ _ c.loop-condition-test.false c.loop-condition.invariant
