-- Numbers that rise and stay below a count.
use Rattle.std.proofs.Common.{◌≡◌, ℕ, zero, suc, ◌<◌, ◌≤◌, List, length, get_or, cond, refl, ap, subst, All, nat_eq, arith, add-one, eq-eqb}
use Rattle.std.specs.List.Sorted.{IsStrictlyIncreasing}
use Rattle.std.proofs.lemmas.List.Sums.{get_or-le-sum_by}
use Rattle.ticket_row.specs.Tickets.{times}

-- a number that rises is no less than its place
at_least_place : (xs : List ℕ) → IsStrictlyIncreasing xs → (k : ℕ) → k < length xs → k ≤ get_or xs k 0
at_least_place xs up zero lt = omega arith
at_least_place xs up (suc k) lt =
    let before = at_least_place xs up k (omega arith) in
    let step : get_or xs k 0 < get_or xs (suc k) 0 = subst (λ n. get_or xs k 0 < get_or xs n 0) (add-one k) (up k (omega arith)) in omega (arith, before, step)

-- so there are no more of them than numbers below the count
pub rising_few : (xs : List ℕ) (count : ℕ) → IsStrictlyIncreasing xs → All (λ y. y < count) xs → length xs ≤ count
rising_few xs count up below = by_length (length xs) refl
  where
    by_length : (n : ℕ) → n ≡ length xs → length xs ≤ count
    by_length zero is = omega arith
    by_length (suc last) is = omega (arith, at_least_place xs up last (omega arith), below last 0 (omega arith))

-- what holds of each number that stands in the list holds of its elements
pub all_by_times : (P : ℕ → Type 0) (xs : List ℕ) → ((x : ℕ) → 0 < times x xs → P x) → All P xs
all_by_times P xs each k d lt =
    let x = get_or xs k d in
    let one : ◌≡◌ {A = ℕ} (cond (nat_eq x x) 1 0) 1 = ap (λ b. cond b 1 0) (eq-eqb x x refl) in
    each x (omega (arith, one, get_or-le-sum_by (λ y. cond (nat_eq y x) 1 0) xs k d lt))
