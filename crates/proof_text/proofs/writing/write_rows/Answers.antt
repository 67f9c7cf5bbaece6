use Rattle.std.proofs.Common.{◌++◌, ap, subst, ◌∙◌}
use Rattle.bound_cert.specs.declared.outcome.RowProof.{RowProof}
use Rattle.proof_grammar.specs.ProofLines.{lines_text, row_lines_in}
use Rattle.proof_grammar.specs.Sizes.{IsSizedRow}
use Rattle.proof_text.proofs.PartTexts.{all_more, text_more}
use Rattle.proof_text.proofs.writing.write_rows.Goals as goal

pub loop-row-preserved : goal.loop-row-preserved
loop-row-preserved c =
    let rows = c.args.rows.now in
    let i = c.loop-row.row-index in
    let row = c.row-item.result in
    let text = λ (x : RowProof). lines_text (row_lines_in c.args.shared x) in
    let written = c.in_ok-write_row.ensures.text ∙ ap (λ (x : RowProof). c.loop-row.text.items ++ text x) c.row-item.is in (
      text_more text _ rows i row _ _ c.loop-row-test.true c.loop-row.invariant.0 written,
      all_more IsSizedRow rows i row c.loop-row-test.true c.loop-row.invariant.1 (subst IsSizedRow c.row-item.is c.in_ok-write_row.ensures.sized),
    )
