use Rattle.std.proofs.Common.{arith}
use Rattle.proof_grammar.specs.ProofLines.{verdict_lines}
use Rattle.cert_check.proofs.CountLaws.{count-fits}
use Rattle.cert_check.proofs.line_counts.verdicts_line_count.Goals as goal

pub verdict_line_count-count-requires : goal.verdict_line_count-count-requires
verdict_line_count-count-requires c =
    let fits = count-fits verdict_lines c.args.verdicts.now c.loop-verdict.verdict-index c.verdict-item.result c.loop-verdict-test.true c.verdict-item.is in
    omega (arith, fits, c.requires)

pub overflow_add-count : goal.overflow_add-count
overflow_add-count c =
    let fits = count-fits verdict_lines c.args.verdicts.now c.loop-verdict.verdict-index c.verdict-item.result c.loop-verdict-test.true c.verdict-item.is in
    omega (arith, fits, c.requires, c.loop-verdict.invariant, c.verdict_line_count-count.ensures)
