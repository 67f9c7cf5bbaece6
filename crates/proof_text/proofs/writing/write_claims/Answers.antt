use Rattle.std.proofs.Common.{◌++◌, ap, subst, ◌∙◌}
use Rattle.donor_book.specs.declared.claim.Entry.{Entry}
use Rattle.proof_grammar.specs.ProofLines.{claim_line, line_text}
use Rattle.proof_grammar.specs.Limits.{IsEntry}
use Rattle.proof_text.proofs.PartTexts.{all_more, text_more}
use Rattle.proof_text.proofs.writing.write_claims.Goals as goal

pub loop-claim-preserved : goal.loop-claim-preserved
loop-claim-preserved c =
    let claims = c.args.claims.now in
    let i = c.loop-claim.claim-index in
    let claim = c.claim-item.result in
    let text = λ (x : Entry). line_text (claim_line x) in
    let written = c.in_ok-write_claim.ensures.text ∙ ap (λ (x : Entry). c.loop-claim.text.items ++ text x) c.claim-item.is in (
      text_more text _ claims i claim _ _ c.loop-claim-test.true c.loop-claim.invariant.0 written,
      all_more IsEntry claims i claim c.loop-claim-test.true c.loop-claim.invariant.1 (subst IsEntry c.claim-item.is c.in_ok-write_claim.ensures.sized),
    )
