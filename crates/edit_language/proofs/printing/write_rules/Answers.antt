use Rattle.std.proofs.Common.{[], ◌∷◌, ◌++◌}
use Rattle.std.proofs.lemmas.Result.{IfOk-from_err}
use Rattle.edit_model.specs.declared.rule.Rule.{Rule}
use Rattle.edit_language.specs.Printing.{rule_line}
use Rattle.edit_language.proofs.PrintingSteps.{line_more, text_all}
use Rattle.edit_language.proofs.printing.write_rules.Goals as goal

pub returns-in_err-write_rule : goal.returns-in_err-write_rule
returns-in_err-write_rule c = IfOk-from_err _ _ c.from_residual.ensures.0

pub returns-in_err-push : goal.returns-in_err-push
returns-in_err-push c = IfOk-from_err _ _ c.from_residual-in_err-push.ensures.0

pub loop-rule-preserved : goal.loop-rule-preserved
loop-rule-preserved c =
    line_more (rule_line c.args.fields.now) _ c.args.rules.now _ c.rule-item.result _ _ _ c.loop-rule-test.true c.rule-item.is
    c.loop-rule.invariant c.in_ok-write_rule.ensures c.in_ok-push.ensures.items

pub returns : goal.returns
returns c = text_all (λ (r : Rule). rule_line c.args.fields.now r ++ 10 ∷ []) _ _ _ _ c.loop-rule-test.false c.loop-rule.invariant
