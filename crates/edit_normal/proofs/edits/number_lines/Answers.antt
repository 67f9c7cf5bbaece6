use Rattle.std.proofs.Common.{arith, ◌∙◌, ap, length-append, map, map-id, rules, sym, List}
use Rattle.std.proofs.lemmas.Iterator.Adapters.{YieldsList-from_vec}
use Rattle.std.proofs.lemmas.Iterator.Consumers.{YieldsList-end, YieldsList-turn}
use Rattle.edit_normal.specs.RuleEdits.{placed_from}
use Rattle.edit_normal.specs.declared.rule_line.RuleLine.{RuleLine}
use Rattle.edit_normal.proofs.RuleEditLaws.{placed-turn}
use Rattle.edit_normal.proofs.edits.number_lines.Goals as goal

pub overflow_add-number : goal.overflow_add-number
overflow_add-number c =
    let list = YieldsList-from_vec {s = c.into_iter-rule_line-iterator.result} c.args.rule_lines.items (search rules) (search rules) in
    let turn = YieldsList-turn list c.loop-rule_line.yielded c.loop-rule_line.rule_line-iterator c.loop-rule_line.yielded_by c.next.result c.next.new.self
    c.in-Some.rule_line c.in-Some.is c.next.ensures.steps in
    omega (arith, turn.0, c.loop-rule_line.invariant.2, c.requires)

pub loop-rule_line-preserved : goal.loop-rule_line-preserved
loop-rule_line-preserved c = (
  tt,
  tt,
  simp length-append (omega (arith, c.loop-rule_line.invariant.2)),
  placed-turn _ _ _ _ _ c.loop-rule_line.invariant.2 c.loop-rule_line.invariant.3 c.in_ok-push.ensures.items,
)

pub returns : goal.returns
returns c =
    let list = YieldsList-from_vec {s = c.into_iter-rule_line-iterator.result} c.args.rule_lines.items (search rules) (search rules) in
    let end = YieldsList-end list c.loop-rule_line.yielded c.loop-rule_line.rule_line-iterator c.loop-rule_line.yielded_by c.next.result c.next.new.self
    c.in-None.is c.next.ensures.steps in
    c.loop-rule_line.invariant.3 ∙ ap (λ (ls : List RuleLine). placed_from 0 (map (λ (r : RuleLine). r.line) ls))
    (sym (map-id c.loop-rule_line.yielded) ∙ end.0)
