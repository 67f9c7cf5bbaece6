use Rattle.std.proofs.Common.{◌≡◌, ℕ, ◌+◌, ◌==◌, ◌&&◌, ◌||◌, Bool, true, false, cond, nat_lt, List, [], ◌∷◌, refl, sym, ap, ◌∙◌, arith}
use Rattle.std.specs.List.{AllByRecursion, sum_by}
use Rattle.std.proofs.lemmas.List.Sums.{sum_by-cons}
use Rattle.std.proofs.lemmas.List.Sorted.{sum_by-IsPermutation}
use Rattle.donor_search.specs.Rankings.{IsInOrder, in_order, is_nearer}
use Rattle.donor_search.proofs.OrderLaws.{nearer_order}
use Rattle.donor_search.proofs.RankedLaws.{order_moves}

-- Two lists have the same elements where each sum over the one is the sum over the other. In order they are then the same list.

abbrev pub HaveSame : List ℕ → List ℕ → Type 0
HaveSame xs ys = (f : ℕ → ℕ) → sum_by f xs ≡ sum_by f ys

pub one_if : (b : Bool) → b ≡ true → ◌≡◌ {A = ℕ} (cond b 1 0) 1
one_if true at = refl
one_if false at = absurd (cc)

module _ (far : ℕ → ℕ) where
  -- 1 for each that comes before y
  ahead : ℕ → ℕ → ℕ
  ahead y x = cond (is_nearer far x y) 1 0

  plain : (n : ℕ) → 0 + n ≡ n
  plain n = omega arith

  none_ahead : (y : ℕ) (xs : List ℕ) → AllByRecursion (λ x. is_nearer far x y ≡ false) xs → sum_by (ahead y) xs ≡ 0
  unfolding ahead
  none_ahead y [] none = refl
  none_ahead y (x ∷ xs) none = sum_by-cons (ahead y) x xs ∙ ap (λ b. cond b 1 0 + sum_by (ahead y) xs) none.0 ∙ plain (sum_by (ahead y) xs)
      ∙ none_ahead y xs none.1

  not_itself : (x : ℕ) → is_nearer far x x ≡ false
  not_itself x = of_numbers (far x) x
    where
      of_numbers : (m a : ℕ) → (nat_lt m m || ((m == m) && nat_lt a a)) ≡ false
      of_numbers m a = grind arith

  same_by_order : (x y : ℕ) → is_nearer far x y ≡ false → is_nearer far y x ≡ false → x ≡ y
  same_by_order x y = of_numbers (far x) (far y) x y
    where
      of_numbers : (m n a b : ℕ) → (nat_lt m n || ((m == n) && nat_lt a b)) ≡ false → (nat_lt n m || ((n == m) && nat_lt b a)) ≡ false → a ≡ b
      of_numbers m n a b h g = grind (arith, h, g)

  -- the first of a list in order is not behind the first of another with the same elements
  not_ahead : (u v : ℕ) (us vs : List ℕ) → IsInOrder (is_nearer far) (v ∷ vs) → HaveSame (u ∷ us) (v ∷ vs) → is_nearer far u v ≡ false
  unfolding ahead
  not_ahead u v us vs is same = by (is_nearer far u v) refl
    where
      none : sum_by (ahead v) (v ∷ vs) ≡ 0
      none = none_ahead v (v ∷ vs) (not_itself v, is.0)

      by : (b : Bool) → is_nearer far u v ≡ b → is_nearer far u v ≡ false
      by true at = absurd (let s = sym (sum_by-cons (ahead v) u us) ∙ same (ahead v) ∙ none in let one = one_if (is_nearer far u v) at in omega (arith, s, one))
      by false at = at

  pub sorted_same : (us vs : List ℕ) → IsInOrder (is_nearer far) us → IsInOrder (is_nearer far) vs → HaveSame us vs → us ≡ vs
  sorted_same [] [] is also same = refl
  sorted_same [] (v ∷ vs) is also same = absurd (let s = same (λ x. 1) ∙ sum_by-cons (λ x. 1) v vs in omega (arith, s))
  sorted_same (u ∷ us) [] is also same = absurd (let s = sym (same (λ x. 1)) ∙ sum_by-cons (λ x. 1) u us in omega (arith, s))
  sorted_same (u ∷ us) (v ∷ vs) is also same =
      let first : u ≡ v = same_by_order u v (not_ahead u v us vs also same) (not_ahead v u vs us is (λ f. sym (same f))) in
      let rest = sorted_same us vs is.1 also.1
      (λ f. less (f u) (f v) (sum_by f us) (sum_by f vs) (ap f first) (sym (sum_by-cons f u us) ∙ same f ∙ sum_by-cons f v vs)) in
      ap (λ x. x ∷ us) first ∙ ap (λ (xs : List ℕ). v ∷ xs) rest
    where
      less : (a b m n : ℕ) → a ≡ b → a + m ≡ b + n → m ≡ n
      less a b m n e s = omega (arith, e, s)

  pub order_same : (xs ys : List ℕ) → HaveSame xs ys → in_order (is_nearer far) xs ≡ in_order (is_nearer far) ys
  order_same xs ys same = sorted_same (in_order (is_nearer far) xs) (in_order (is_nearer far) ys) (nearer_order far xs) (nearer_order far ys)
      (λ f. sum_by-IsPermutation f xs (in_order (is_nearer far) xs) (order_moves (is_nearer far) xs) ∙ same f
      ∙ sym (sum_by-IsPermutation f ys (in_order (is_nearer far) ys) (order_moves (is_nearer far) ys)))
