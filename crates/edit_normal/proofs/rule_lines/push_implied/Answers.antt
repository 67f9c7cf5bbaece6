use Rattle.std.proofs.Common.{◌≡◌, ◌<◌, ◌≤◌, get_or, length, refl, ap, ◌∙◌, sym, subst, List, ℕ}
use Rattle.edit_line.specs.inner.SetBounds.{AreWithin}
use Rattle.edit_model.specs.declared.rule.Test.{Test}
use Rattle.edit_line.specs.Shapes.{whole_sets}
use Rattle.edit_line.proofs.SetLaws.{AreWithin-wholes}
use Rattle.edit_normal.specs.NormalForm.{implied_lines}
use Rattle.edit_normal.proofs.Pushes.{condition-ends, conditions-end, joined-from}
use Rattle.edit_normal.proofs.rule_lines.push_implied.Goals as goal

pub loop-condition-init : goal.loop-condition-init
loop-condition-init c =
    let are = c.in_ok-sets.ensures.items ∙ c.wholes.ensures in
    record {
      same = ap (λ (ss : List ℕ). implied_lines c.args.fields.now ss c.args.numbered.now.rule.now.conditions c.args.numbered.now.rule.now.conclusion) are;
      within = subst (λ (ss : List ℕ). AreWithin ss (whole_sets c.args.fields.now)) (sym are) (AreWithin-wholes (whole_sets c.args.fields.now));
      unchanged = refl;
    }

pub returns-in-Number : goal.returns-in-Number
returns-in-Number c =
    let i = c.loop-condition.condition-index in
    let conditions = c.args.numbered.now.rule.now.conditions in
    let item = c.condition-item.result in
    let below : i < length conditions = subst (λ (ts : List Test). i < length ts) c.as_slice-condition-items.ensures c.loop-condition-test.true in
    let here : item ≡ get_or conditions i item = subst (λ (ts : List Test). item ≡ get_or ts i item) c.as_slice-condition-items.ensures c.condition-item.is in
    let are = condition-ends c.args.fields.now c.loop-condition.sets.items conditions c.args.numbered.now.rule.now.conclusion item c.in-Number.linear i _
    below here c.in-Number.is c.loop-condition.invariant.same in
    joined-from c.push_condition.result c.push_condition.new.lines.items c.loop-condition.lines.items c.args.lines.now.items c.args.numbered.now.number _ _
    c.loop-condition.invariant.unchanged are c.push_condition.ensures

pub returns : goal.returns
returns c =
    let conditions = c.args.numbered.now.rule.now.conditions in
    let past : length conditions ≤ c.loop-condition.condition-index = subst (λ (ts : List Test). length ts ≤ c.loop-condition.condition-index)
    c.as_slice-condition-items.ensures c.loop-condition-test.false in
    let are = conditions-end c.args.fields.now c.loop-condition.sets.items conditions c.args.numbered.now.rule.now.conclusion
    c.loop-condition.condition-index _ past c.loop-condition.invariant.same in
    joined-from c.push_conclusion.result c.push_conclusion.new.lines.items c.loop-condition.lines.items c.args.lines.now.items c.args.numbered.now.number _ _
    c.loop-condition.invariant.unchanged are c.push_conclusion.ensures
