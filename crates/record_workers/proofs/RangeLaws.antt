use Rattle.std.proofs.Common.{◌≡◌, ◌≢◌, ℕ, zero, suc, ◌+◌, ◌<◌, ◌≤◌, true, false, cond, eqb, List, [], ◌∷◌, length, get_or, ⊎_elim, refl, ap, arith}
use Rattle.std.specs.List.{range_with_len, AllByRecursion}
use Rattle.std.specs.List.Sorted.{IsNonDecreasing}
use Rattle.std.proofs.lemmas.Bool.{cases_lt}
use Rattle.std.proofs.lemmas.Bool.Decides.{eqb_tells}
use Rattle.std.proofs.lemmas.List.Sums.{sum_by-cons}
use Rattle.ticket_row.specs.Tickets.{times}

-- A list of numbers that do not fall, in which each number of a range stands once and no other, is that range.

-- 1 where the numbers are the same, and else 0
abbrev pub one_at : ℕ → ℕ → ℕ
one_at x y = cond (eqb y x) 1 0

pub one-same : (x y : ℕ) → y ≡ x → one_at x y ≡ 1
one-same x y same = ⊎_elim (λ (t : (eqb y x ≡ true) × (y ≡ x)). ap (λ b. cond b 1 0) t.0) (λ (f : (eqb y x ≡ false) × (y ≢ x)). absurd (f.1 same))
    (eqb_tells y x)

pub one-other : (x y : ℕ) → y ≢ x → one_at x y ≡ 0
one-other x y apart = ⊎_elim (λ (t : (eqb y x ≡ true) × (y ≡ x)). absurd (apart t.1)) (λ (f : (eqb y x ≡ false) × (y ≢ x)). ap (λ b. cond b 1 0) f.0)
    (eqb_tells y x)

-- a number stands in a list as often as in its tail, and once more where it is the first
pub times-cons : (x y : ℕ) (ys : List ℕ) → times x (y ∷ ys) ≡ one_at x y + times x ys
times-cons x y ys = sum_by-cons (λ y. cond (eqb y x) 1 0) y ys

-- what is greater than a number does not hold it
pub times-above : (x : ℕ) (ys : List ℕ) → AllByRecursion (λ y. x < y) ys → times x ys ≡ 0
times-above x [] all = refl
times-above x (y ∷ ys) all = let none = one-other x y (λ same. absurd (omega (arith, same, all.0))) in
    omega (arith, times-cons x y ys, none, times-above x ys all.1)

-- numbers that do not fall, by recursion
abbrev Rises : List ℕ → Type 0
Rises [] = Unit {0}
Rises (x ∷ xs) = AllByRecursion (λ y. x ≤ y) xs × Rises xs

least : (x : ℕ) (xs : List ℕ) → ((j d : ℕ) → j < length xs → x ≤ get_or xs j d) → AllByRecursion (λ y. x ≤ y) xs
least x [] all = tt
least x (y ∷ ys) all = (all 0 0 (omega arith), least x ys (λ j d lt. all (suc j) d (omega (arith, lt))))

rises : (xs : List ℕ) → IsNonDecreasing xs → Rises xs
rises [] all = tt
rises (x ∷ xs) all = (
  least x xs (λ j d lt. all 0 (suc j) d (omega arith) (omega (arith, lt))),
  rises xs
      (λ i j d le lt. all (suc i) (suc j) d (omega (arith, le)) (omega (arith, lt))),
)

above : (k x : ℕ) (xs : List ℕ) → k < x → AllByRecursion (λ y. x ≤ y) xs → AllByRecursion (λ y. k < y) xs
above k x [] lt all = tt
above k x (y ∷ ys) lt all = (omega (arith, lt, all.0), above k x ys lt all.1)

-- each number from k on, n of them, stands once in the list, and no other
pub record StandOnce (k n : ℕ) (xs : List ℕ) : Type 0 where
  pub below : (x : ℕ) → x < k → times x xs ≡ 0
  pub once : (x : ℕ) → k ≤ x → x < k + n → times x xs ≡ 1
  pub past : (x : ℕ) → k + n ≤ x → times x xs ≡ 0

-- the first is the least
first-is : (k n x : ℕ) (xs : List ℕ) → AllByRecursion (λ y. x ≤ y) xs → StandOnce k n (x ∷ xs) → (x ≡ k) × (0 < n)
first-is k n x xs all once = (omega (arith, low, high), some)
  where
    here : 1 ≤ times x (x ∷ xs)
    here = omega (arith, times-cons x x xs, one-same x x refl)

    low : k ≤ x
    low = ⊎_elim (λ (lt : x < k). absurd (let none = once.below x lt in omega (arith, here, none))) (λ (le : k ≤ x). le) (cases_lt x k)

    some : 0 < n
    some = ⊎_elim (λ (lt : x < k + n). omega (arith, lt, low)) (λ (le : k + n ≤ x). absurd (let none = once.past x le in omega (arith, here, none)))
        (cases_lt x (k + n))

    high : x ≤ k
    high = ⊎_elim (λ (lt : k < x).
        absurd (let there = once.once k (omega arith) (omega (arith, some)) in let none = one-other k x (λ same. absurd (omega (arith, same, lt))) in
        omega (arith, there, times-cons k x xs, none, times-above k xs (above k x xs lt all)))) (λ (le : x ≤ k). le) (cases_lt k x)

pub range-is : (k n : ℕ) (xs : List ℕ) → Rises xs → StandOnce k n xs → xs ≡ range_with_len k n
range-is k zero [] up once = refl
range-is k (suc n) [] up once = absurd (let there = once.once k (omega arith) (omega arith) in omega (arith, there))
range-is k zero (x ∷ xs) up once = absurd (let first = first-is k 0 x xs up.0 once in omega (arith, first.1))
range-is k (suc n) (x ∷ xs) up once =
    let first = first-is k (suc n) x xs up.0 once in
    let rest = range-is (k + 1) n xs up.1 (record {
      below = λ y lt. ⊎_elim
          (λ (l : y < k). let none = once.below y l in omega (arith, none, times-cons y x xs))
          (λ (g : k ≤ y). let one = once.once y g (omega (arith, lt)) in let here = one-same y x (omega (arith, first.0, lt, g)) in
          omega (arith, one, here, times-cons y x xs))
          (cases_lt y k);
      once = λ y low lt. (let one = once.once y (omega (arith, low)) (omega (arith, lt)) in
          let other = one-other y x (λ same. absurd (omega (arith, same, first.0, low))) in omega (arith, one, other, times-cons y x xs));
      past = λ y low. (let none = once.past y (omega (arith, low)) in omega (arith, none, times-cons y x xs));
    }) in
    λ i. first.0 i ∷ rest i

-- as a sort leaves them
pub sorted-range : (n : ℕ) (xs : List ℕ) → IsNonDecreasing xs → StandOnce 0 n xs → xs ≡ range_with_len 0 n
sorted-range n xs up once = range-is 0 n xs (rises xs up) once
