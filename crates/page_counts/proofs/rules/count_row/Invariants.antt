use Rattle.std.proofs.Common.{◌≡◌, ◌+◌, ◌++◌, drop, map, take}
use Rattle.page_counts.specs.Rules.{rule_count}
use Rattle.page_counts.proofs.rules.count_row.Given as goal

abbrev pub invariant-loop-i : goal.invariant-loop-i
invariant-loop-i l =
    l.counts.items
    ≡ map (rule_count (take (l.row_no + 1) l.sheet.rows)) (take l.i l.rules) ++ map (rule_count (take l.row_no l.sheet.rows)) (drop l.i l.rules)
