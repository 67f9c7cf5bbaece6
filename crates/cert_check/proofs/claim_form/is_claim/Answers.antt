use Rattle.cert_check.proofs.ClaimLaws.{in-form}
use Rattle.cert_check.proofs.claim_form.is_claim.Goals as goal

pub returns-then-are_distinct : goal.returns-then-are_distinct
returns-then-are_distinct c = λ survey rows flags.
    let row = rw c.rows.ensures at (c.row_claims.ensures.0 c.if-row_claims.true) in
    let few = rw (c.as_slice-ranking.ensures, c.near.ensures) at c.if-ranking-near.true in
    let once = rw c.as_slice-ranking.ensures at (c.are_distinct.ensures.0 c.if-are_distinct.true) in
    let are = rw c.as_slice-ranking.ensures at c.are_clean.ensures in
    in-form survey rows c.args.said.now c.args.clean.now c.args.claim.now c.are_clean.result flags row few once are
