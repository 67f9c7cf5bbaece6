use Rattle.std.proofs.Common.{◌+◌, take, arith}
use Rattle.page_counts.specs.Rules.{rule_count}
use Rattle.page_counts.proofs.RuleLaws.{read_unwritten, write_more}
use Rattle.page_counts.proofs.rules.count_row.Goals as goal

pub with_row-requires-clause-counted : goal.with_row-requires-clause-counted
with_row-requires-clause-counted c =
    let rows = c.args.sheet.now.rows in
    read_unwritten (rule_count (take (c.args.row_no + 1) rows)) (rule_count (take c.args.row_no rows)) c.args.rules.now c.loop-i.i
    (omega arith) c.loop-i.counts.items c.index-rules-i.result
    c.loop-i.invariant c.index-rules-i.is c.index.result.now c.index.ensures

pub loop-i-preserved : goal.loop-i-preserved
loop-i-preserved c =
    let rows = c.args.sheet.now.rows in
    write_more (rule_count (take (c.args.row_no + 1) rows)) (rule_count (take c.args.row_no rows)) c.args.rules.now c.loop-i.i
    (omega arith) c.loop-i.counts.items c.index-rules-i.result
    c.loop-i.invariant c.index-rules-i.is c.with_row.result c.with_row.ensures
