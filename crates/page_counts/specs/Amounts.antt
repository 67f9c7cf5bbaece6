-- Records or donors by an amount: how many have each, and which have the greatest.
use Rattle.std.specs.Prelude.{◌≡◌, ◌==◌, ◌≤◌, ℕ, List, All, Any, map, take}
use Rattle.std.specs.List.{count_by}
use Rattle.std.specs.List.Sorted.{IsPermutation, IsSorted, IsStrictlyIncreasing}
use Rattle.std.specs.Ordering.{nat_cmp, ordering_then}
use Rattle.std.specs.declared.cmp.Ordering.{Ordering}
use Rattle.page_counts.specs.declared.amounts.Amount.{Amount}
use Rattle.page_counts.specs.declared.amounts.SizeCount.{SizeCount}

-- how many have each size that occurs, by rising size, each size once
pub record IsTally (amounts : List Amount) (counts : List SizeCount) : Type 0 where
  pub rising : IsStrictlyIncreasing (map (λ (c : SizeCount). c.size) counts)
  pub each : All (λ (c : SizeCount). c.count ≡ count_by (λ (a : Amount). a.size == c.size) amounts) counts
  pub some : All (λ (c : SizeCount). 1 ≤ c.count) counts
  pub all : All (λ (a : Amount). Any (λ (c : SizeCount). c.size ≡ a.size) counts) amounts

-- the order of amounts: the greater first, and of equal ones that of the earlier number
abbrev pub amount_order : Amount → Amount → Ordering
amount_order a b = ordering_then (nat_cmp b.size a.size) (nat_cmp a.number b.number)

-- the first of the amounts, at most so many, in this order
pub record AreGreatest (amounts : List Amount) (most : ℕ) (greatest : List Amount) : Type 0 where
  pub sorted : List Amount
  pub same : IsPermutation amounts sorted
  pub order : IsSorted amount_order sorted
  pub first : greatest ≡ take most sorted
