use Rattle.std.proofs.Common.{◌≡◌, length, map}
use Rattle.edit_normal.specs.RuleEdits.{placed_from}
use Rattle.edit_normal.specs.declared.rule_line.RuleLine.{RuleLine}
use Rattle.edit_normal.proofs.edits.number_lines.Given as goal

abbrev pub invariant-loop-rule_line : goal.invariant-loop-rule_line
invariant-loop-rule_line l =
    (goal.iterator-loop-rule_line).can_next l.rule_line-iterator × (goal.iterator-loop-rule_line).is_finite l.rule_line-iterator
    × (l.number ≡ length l.yielded) × (l.lines.items ≡ placed_from 0 (map (λ (r : RuleLine). r.line) l.yielded))
