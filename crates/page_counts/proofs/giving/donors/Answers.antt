use Rattle.std.proofs.Common.{◌≡◌, ◌∙◌, ◌++◌, ℕ, cond, nat_lt, List, [], ◌∷◌, map, ap, sym, arith}
use Rattle.std.specs.List.{filter, range_with_len}
use Rattle.page_counts.specs.Donors.{gift_count}
use Rattle.page_counts.specs.declared.amounts.Amount.{Amount}
use Rattle.page_counts.specs.declared.giving.Gifts.{Gifts}
use Rattle.page_counts.proofs.GivingLaws.{donors_more}
use Rattle.page_counts.proofs.giving.donors.Goals as goal

pub loop-number-preserved : goal.loop-number-preserved
loop-number-preserved c =
    let n = c.loop-number.number in
    let rows = c.args.rows in
    let changes = c.args.changes.now in
    let is = c.in_ok-gifts.ensures.each n c.index.result.now (omega arith) in
    let counted : c.index.result.now.count ≡ gift_count rows changes n = ap (λ (g : Gifts). g.count) c.index.ensures ∙ is.count in
    let before : List Amount = map (λ donor. record { number = donor; size = gift_count rows changes donor })
    (filter (λ donor. nat_lt 0 (gift_count rows changes donor)) (range_with_len 0 n)) in
    let one : ℕ → List Amount = λ s. cond (nat_lt 0 s) (record { number = n; size = s } ∷ []) [] in
    c.in_ok-push_donor.ensures ∙ ap (λ (ds : List Amount). ds ++ one c.index.result.now.count) c.loop-number.invariant
    ∙ ap (λ s. before ++ one s) counted
    ∙ sym (donors_more rows changes n)
