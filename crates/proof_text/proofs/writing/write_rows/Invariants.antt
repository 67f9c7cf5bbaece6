use Rattle.std.proofs.Common.{◌≡◌, ◌++◌, codes, take}
use Rattle.std.specs.List.{AllByRecursion, flat_map}
use Rattle.proof_grammar.specs.ProofLines.{count_line, line_text, lines_text, row_lines_in}
use Rattle.bound_cert.specs.declared.outcome.RowProof.{RowProof}
use Rattle.proof_grammar.specs.Sizes.{IsSizedRow}
use Rattle.proof_text.proofs.writing.write_rows.Given as goal

abbrev pub invariant-loop-row : goal.invariant-loop-row
invariant-loop-row l = (l.text.items ≡ l.fn.text.items ++ line_text (count_line (codes "records") l.rows)
    ++ flat_map (λ (row : RowProof). lines_text (row_lines_in l.shared row)) (take l.row-index l.rows)) × AllByRecursion IsSizedRow (take l.row-index l.rows)
