use Rattle.std.proofs.Common.{◌≡◌, map}
use Rattle.edit_normal.specs.declared.rule_line.RuleLine.{RuleLine}
use Rattle.edit_normal.proofs.normal.lines_of_rules.Given as goal

abbrev pub invariant-loop-rule_line : goal.invariant-loop-rule_line
invariant-loop-rule_line l =
    (goal.iterator-loop-rule_line).can_next l.rule_line-iterator × (goal.iterator-loop-rule_line).is_finite l.rule_line-iterator
    × (l.lines.items ≡ map (λ (r : RuleLine). r.line) l.yielded)
