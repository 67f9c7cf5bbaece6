use Rattle.std.proofs.Common.{◌≡◌, ◌==◌, ◌≤◌, ℕ, IfSome, count_by, take, unwrap_or}
use Rattle.std.specs.BTreeMap.{get}
use Rattle.std.specs.Ordering.{nat_cmp}
use Rattle.page_counts.specs.declared.amounts.Amount.{Amount}
use Rattle.page_counts.proofs.amounts.counts_by_size.Given as goal

abbrev pub invariant-loop-amount : goal.invariant-loop-amount
invariant-loop-amount l =
    ((size : ℕ) → unwrap_or (get nat_cmp l.counts size) 0 ≡ count_by (λ (a : Amount). a.size == size) (take l.amount-index l.amounts))
    × ((size : ℕ) → IfSome (get nat_cmp l.counts size) (λ count. 1 ≤ count))
