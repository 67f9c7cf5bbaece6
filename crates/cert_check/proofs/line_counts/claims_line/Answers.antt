use Rattle.std.proofs.Common.{List, ap, arith, length}
use Rattle.std.specs.List.{flat_map}
use Rattle.bound_cert.specs.declared.outcome.RowProof.{RowProof}
use Rattle.proof_grammar.specs.ProofLines.{row_lines}
use Rattle.cert_check.proofs.LineNumbers.{all-lines}
use Rattle.cert_check.proofs.line_counts.claims_line.Goals as goal

pub rows_line_count-requires : goal.rows_line_count-requires
rows_line_count-requires c = rw c.rows.ensures (omega (arith, all-lines c.args.proof.now, c.requires))

pub overflow_add-result-2 : goal.overflow_add-result-2
overflow_add-result-2 c =
    omega (
      arith,
      all-lines c.args.proof.now,
      c.requires,
      c.records_line.ensures,
      c.in_ok-rows_line_count.ensures,
      ap (λ (rows : List RowProof). length (flat_map row_lines rows)) c.rows.ensures,
    )
