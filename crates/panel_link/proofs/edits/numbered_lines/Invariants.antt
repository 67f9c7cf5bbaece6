use Rattle.std.proofs.Common.{◌≡◌, map, take}
use Rattle.edit_normal.specs.RuleEdits.{placed_from}
use Rattle.edit_normal.specs.declared.rule_line.RuleLine.{RuleLine}
use Rattle.panel_link.proofs.edits.numbered_lines.Given as goal

abbrev pub invariant-loop-rule_line : goal.invariant-loop-rule_line
invariant-loop-rule_line l = l.placed.items ≡ placed_from 0 (map (λ (r : RuleLine). r.line) (take l.rule_line-index l.lines))
