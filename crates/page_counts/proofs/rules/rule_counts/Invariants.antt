use Rattle.std.proofs.Common.{◌≡◌, map, take}
use Rattle.page_counts.specs.Rules.{rule_count}
use Rattle.page_counts.proofs.rules.rule_counts.Given as goal

abbrev pub invariant-loop-row_no : goal.invariant-loop-row_no
invariant-loop-row_no l = l.counts.items ≡ map (rule_count (take l.row_no l.sheet.rows)) l.rules
