use Rattle.std.specs.Cmp.{IsStrictWeakOrder}
use Rattle.std.specs.Ordering.{is_lt}
use Rattle.std.proofs.lemmas.Cmp.{back_total, nat_cmp_total, on_total, then_total}
use Rattle.std.proofs.lemmas.List.Sorted.{ranks_by}
use Rattle.page_counts.specs.Amounts.{amount_order}
use Rattle.page_counts.specs.declared.amounts.Amount.{Amount}

-- The order of amounts.

-- it is one
pub amounts_rank : IsStrictWeakOrder (λ (a b : Amount). is_lt (amount_order a b))
amounts_rank = ranks_by (then_total (on_total (λ (a : Amount). a.size) (back_total nat_cmp_total)) (on_total (λ (a : Amount). a.number) nat_cmp_total))
    (λ (a : Amount). a)
