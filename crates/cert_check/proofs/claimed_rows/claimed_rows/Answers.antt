use Rattle.std.proofs.Common.{◌≡◌, ◌∙◌, ◌+◌, ◌++◌, List, [], ◌∷◌, ap, length, set, subst, sym, take, true}
use Rattle.std.proofs.lemmas.List.{take_more}
use Rattle.donor_book.specs.declared.claim.Entry.{Entry}
use Rattle.cert_check.specs.inner.ClaimChecks.{AreMarked}
use Rattle.cert_check.proofs.ClaimedLaws.{marked-more}
use Rattle.cert_check.proofs.claimed_rows.claimed_rows.Goals as goal

pub loop-claim-preserved : goal.loop-claim-preserved
loop-claim-preserved c =
    let claims = c.args.said.now.claims in
    let i = c.loop-claim.claim-index in
    let e = c.claim-item.result in
    let count = length c.args.said.now.rows in
    let more : take (i + 1) claims ≡ take i claims ++ e ∷ [] = take_more claims i e (rw c.claims-claim-items.ensures at c.loop-claim-test.true)
    ∙ ap (λ (x : Entry). take i claims ++ x ∷ []) (sym (rw c.claims-claim-items.ensures at c.claim-item.is)) in
    subst (λ (cs : List Entry). AreMarked cs count (set c.loop-claim.marks.items e.row_no true)) (sym more)
    (marked-more (take i claims) count c.loop-claim.marks.items e c.loop-claim.invariant)
