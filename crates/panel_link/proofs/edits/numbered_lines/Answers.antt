use Rattle.panel_link.proofs.PlacedLines.{placed-few, placed-next}
use Rattle.panel_link.proofs.edits.numbered_lines.Goals as goal

pub push_line-requires : goal.push_line-requires
push_line-requires c =
    placed-few c.args.lines.now c.loop-rule_line.rule_line-index c.loop-rule_line.placed.items c.loop-rule_line-test.true c.requires c.loop-rule_line.invariant

pub loop-rule_line-preserved : goal.loop-rule_line-preserved
loop-rule_line-preserved c =
    placed-next c.args.lines.now c.loop-rule_line.rule_line-index c.rule_line-item.result c.in_ok-copy.field-0 c.loop-rule_line.placed.items
    c.push_line.new.lines.items c.loop-rule_line-test.true c.rule_line-item.is c.loop-rule_line.invariant c.in_ok-copy.ensures c.in_ok-push_line.ensures
