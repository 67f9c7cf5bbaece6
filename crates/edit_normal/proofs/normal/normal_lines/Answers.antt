use Rattle.std.proofs.Common.{◌≡◌, ◌≤◌, ◌*◌, List, length, subst, sym}
use Rattle.edit_model.specs.declared.rule.Rule.{Rule}
use Rattle.edit_line.specs.Shapes.{shape_of}
use Rattle.edit_normal.specs.RuleLines.{rule_lines_from}
use Rattle.edit_normal.proofs.MeaningLaws.{lines-all, lines-over}
use Rattle.edit_normal.specs.declared.rule_line.RuleLine.{RuleLine}
use Rattle.edit_normal.proofs.NormalLaws.{lines-most}
use Rattle.edit_normal.proofs.RuleForms.{few-answered, lines-answered, rule-codes, rule-more, rules-end}
use Rattle.edit_normal.proofs.normal.normal_lines.Goals as goal

pub push_rule-requires : goal.push_rule-requires
push_rule-requires c =
    let survey = c.args.survey.now in
    let codes = rule-codes survey.fields survey.rules c.rules-rule-items.result.now c.in_ok-fields.fields c.loop-number.number c.rule-item.result
    c.in_ok-fields.ensures c.rules-rule-items.ensures.rules c.rules-rule-items.ensures.well_formed.rules c.loop-number-test.true c.rule-item.is in
    record { conditions = codes.0; conclusion = codes.1 }

pub loop-number-preserved : goal.loop-number-preserved
loop-number-preserved c =
    let survey = c.args.survey.now in
    rule-more (shape_of survey.fields) c.in_ok-fields.fields survey.rules c.rules-rule-items.result.now c.loop-number.number c.rule-item.result
    c.loop-number.lines.items c.push_rule.new.lines.items _ c.in_ok-fields.ensures c.rules-rule-items.ensures.rules c.loop-number-test.true c.rule-item.is
    c.in_ok-push_rule.ensures c.loop-number.invariant

pub returns : goal.returns
returns c =
    let survey = c.args.survey.now in
    let past : length survey.rules ≤ c.loop-number.number = subst (λ (rs : List Rule). length rs ≤ c.loop-number.number) c.rules-rule-items.ensures.rules
    c.loop-number-test.false in
    let is : c.loop-number.lines.items ≡ rule_lines_from (shape_of survey.fields) 0 survey.rules =
    rules-end (shape_of survey.fields) survey.rules c.loop-number.number c.loop-number.lines.items _ past c.loop-number.invariant in
    record {
      exact = is;
      lines = lines-all survey c.loop-number.lines.items is;
      over = lines-over survey c.loop-number.lines.items is;
      few = few-answered (shape_of survey.fields) survey.rules c.loop-number.lines.items is;
      most = subst (λ (ls : List RuleLine). length ls ≤ 2 * length survey.rules) (sym is) (lines-most (shape_of survey.fields) 0 survey.rules);
      same = lines-answered survey.fields survey.rules c.loop-number.lines.items is c.rules-rule-items.ensures.well_formed.rules;
    }
