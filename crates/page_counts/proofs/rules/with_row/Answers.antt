use Rattle.std.proofs.Common.{◌≡◌, ◌+◌, Some, None, true, false, arith}
use Rattle.page_counts.specs.Rules.{answer_at}
use Rattle.page_counts.proofs.RuleLaws.{counted_row}
use Rattle.page_counts.proofs.rules.with_row.Goals as goal

pub returns-in-Some-true : goal.returns-in-Some-true
returns-in-Some-true c =
    let told : Some true ≡ answer_at c.row.result.now c.args.rule.now = cc in
    counted_row c.args.sheet.now.rows c.args.rule.now c.args.row_no c.row.result.now c.args.count
    (Some true) c.args.count.broken c.args.count.untried c.requires.row c.row.ensures
    c.requires.counted told (omega arith) (omega arith)

pub returns-in-Some-false : goal.returns-in-Some-false
returns-in-Some-false c =
    let told : Some false ≡ answer_at c.row.result.now c.args.rule.now = cc in
    counted_row c.args.sheet.now.rows c.args.rule.now c.args.row_no c.row.result.now c.args.count (Some false)
    (c.args.count.broken + 1) c.args.count.untried c.requires.row c.row.ensures
    c.requires.counted told (omega arith) (omega arith)

pub returns-in-None : goal.returns-in-None
returns-in-None c =
    let told : None ≡ answer_at c.row.result.now c.args.rule.now = cc in
    counted_row c.args.sheet.now.rows c.args.rule.now c.args.row_no c.row.result.now c.args.count None c.args.count.broken
    (c.args.count.untried + 1) c.requires.row c.row.ensures
    c.requires.counted told (omega arith) (omega arith)
