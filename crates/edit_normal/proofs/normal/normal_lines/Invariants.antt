use Rattle.std.proofs.Common.{◌≡◌, ◌++◌, drop}
use Rattle.edit_line.specs.Shapes.{shape_of}
use Rattle.edit_normal.specs.RuleLines.{rule_lines_from}
use Rattle.edit_normal.proofs.normal.normal_lines.Given as goal

abbrev pub invariant-loop-number : goal.invariant-loop-number
invariant-loop-number l = l.lines.items ++ rule_lines_from (shape_of l.survey.fields) l.number (drop l.number l.survey.rules)
    ≡ rule_lines_from (shape_of l.survey.fields) 0 l.survey.rules
