use Rattle.std.proofs.Common.{ap, arith, length}
use Rattle.bound_cert.specs.declared.outcome.RowProof.{RowProof}
use Rattle.proof_grammar.specs.ProofLines.{row_lines}
use Rattle.cert_check.proofs.CountLaws.{count-fits, count-more}
use Rattle.cert_check.proofs.line_counts.rows_line_count.Goals as goal

pub row_line_count-count-requires : goal.row_line_count-count-requires
row_line_count-count-requires c =
    let fits = count-fits row_lines c.args.rows.now c.loop-place.place-index c.place-item.result c.loop-place-test.true c.place-item.is in
    omega (arith, fits, c.requires, ap (λ (r : RowProof). length (row_lines r)) c.in_ok-row.ensures)

pub overflow_add-count : goal.overflow_add-count
overflow_add-count c =
    let fits = count-fits row_lines c.args.rows.now c.loop-place.place-index c.place-item.result c.loop-place-test.true c.place-item.is in
    omega (arith, fits, c.requires, c.loop-place.invariant, c.row_line_count-count.ensures, ap (λ (r : RowProof). length (row_lines r)) c.in_ok-row.ensures)

pub loop-place-preserved : goal.loop-place-preserved
loop-place-preserved c =
    let more = count-more row_lines c.args.rows.now c.loop-place.place-index c.place-item.result c.loop-place-test.true c.place-item.is in
    omega (arith, more, c.loop-place.invariant, c.row_line_count-count.ensures, ap (λ (r : RowProof). length (row_lines r)) c.in_ok-row.ensures)
