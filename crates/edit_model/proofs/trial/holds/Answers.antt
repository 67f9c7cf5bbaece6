use Rattle.std.proofs.Common.{◌≡◌, ◌≤◌, List, [], length, drop, Some, true, sym, ap, ◌∙◌, subst, arith}
use Rattle.std.proofs.lemmas.Grind.{common_steps}
use Rattle.std.proofs.lemmas.Result.{IfOk-weaker}
use Rattle.std.proofs.lemmas.List.{drop_all}
use Rattle.edit_model.specs.Trials.{rule_at, test_at, tests_at}
use Rattle.edit_model.specs.declared.rule.Test.{Test}
use Rattle.edit_model.proofs.TrialLaws.{rule_at-holds}
use Rattle.edit_model.proofs.trial.holds.Goals as goal

pub returns-then-not-branch-clause-truth : goal.returns-then-not-branch-clause-truth
returns-then-not-branch-clause-truth c = λ p agrees.
    let answer : rule_at c.args.rule.now c.args.row.now ≡ Some true = grind (arith, common_steps) in
    rule_at-holds c.args.rule.now c.args.row.now p true c.requires agrees answer

pub returns-clause-truth : goal.returns-clause-truth
returns-clause-truth c =
    let none_left : drop c.loop-condition.condition-index c.args.rule.now.conditions ≡ [] =
    drop_all c.loop-condition.condition-index c.args.rule.now.conditions (subst (λ (ts : List Test). length ts ≤ c.loop-condition.condition-index)
    c.as_slice-condition-items.ensures c.loop-condition-test.false) in
    let whole : rule_at c.args.rule.now c.args.row.now ≡ test_at c.args.rule.now.conclusion c.args.row.now =
    sym c.loop-condition.invariant ∙ ap (λ (ts : List Test). tests_at ts c.args.rule.now.conclusion c.args.row.now) none_left in
    IfOk-weaker c.is_true-2.result _ _ (λ b e p agrees. rule_at-holds c.args.rule.now c.args.row.now p b c.requires agrees (whole ∙ e))
    c.is_true-2.ensures.in_range
