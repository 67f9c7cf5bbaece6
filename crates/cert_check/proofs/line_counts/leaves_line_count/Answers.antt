use Rattle.std.proofs.Common.{arith}
use Rattle.proof_grammar.specs.ProofLines.{leaf_lines}
use Rattle.cert_check.proofs.CountLaws.{count-fits}
use Rattle.cert_check.proofs.line_counts.leaves_line_count.Goals as goal

pub leaf_line_count-count-requires : goal.leaf_line_count-count-requires
leaf_line_count-count-requires c =
    let fits = count-fits leaf_lines c.args.leaves.now c.loop-leaf.leaf-index c.leaf-item.result c.loop-leaf-test.true c.leaf-item.is in
    omega (arith, fits, c.requires)

pub overflow_add-count : goal.overflow_add-count
overflow_add-count c =
    let fits = count-fits leaf_lines c.args.leaves.now c.loop-leaf.leaf-index c.leaf-item.result c.loop-leaf-test.true c.leaf-item.is in
    omega (arith, fits, c.requires, c.loop-leaf.invariant, c.leaf_line_count-count.ensures)
