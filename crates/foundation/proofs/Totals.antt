-- Sums over the views of all seats, where one of them changes.
use Rattle.std.proofs.Common.{◌≡◌, ℕ, zero, suc, ◌+◌, ◌<◌, ◌≤◌, List, [], ◌∷◌, length, get_or, set, refl, sym, ap, arith}
use Rattle.std.specs.List.{sum_by}
use Rattle.std.proofs.lemmas.List.Sums.{sum_by-cons, sum_by-set, get_or-le-sum_by}
use mathlib.Core.Option.{some, some-injective, some-ne-none}
use lib.ListN.{get_elem?}

module _ {V : Type 0} where
  -- what is found at a place is there
  pub found_at : (views : List V) (by : ℕ) (v d : V) → get_elem? views by ≡ some v → (by < length views) × (get_or views by d ≡ v)
  found_at [] by v d at = absurd (some-ne-none v (sym at))
  found_at (x ∷ xs) zero v d at = (omega arith, some-injective x v at)
  found_at (x ∷ xs) (suc by) v d at = let rest = found_at xs by v d at in (omega (arith, rest.0), rest.1)

  -- the sum after a change of one view
  pub sum_by_set : (f : V → ℕ) (views : List V) (by : ℕ) (v w : V) → get_elem? views by ≡ some v → sum_by f (set views by w) + f v ≡ sum_by f views + f w
  sum_by_set f views by v w at =
      let here = found_at views by v v at in
      let same : f (get_or views by v) ≡ f v = ap f here.1 in omega (arith, same, sum_by-set f views by w v here.0)

  -- one view's term is within the sum
  pub term_within : (f : V → ℕ) (views : List V) (by : ℕ) (v : V) → get_elem? views by ≡ some v → f v ≤ sum_by f views
  term_within f views by v at =
      let here = found_at views by v v at in
      let same : f (get_or views by v) ≡ f v = ap f here.1 in omega (arith, same, get_or-le-sum_by f views by v here.0)

  -- sums are ordered as their terms are
  pub sums_ordered : (f g : V → ℕ) (views : List V) → ((j : ℕ) (u : V) → get_elem? views j ≡ some u → f u ≤ g u) → sum_by f views ≤ sum_by g views
  sums_ordered f g [] le = omega arith
  sums_ordered f g (x ∷ xs) le = let here = le zero x refl in let rest = sums_ordered f g xs (λ j u at. le (suc j) u at) in
      omega (arith, here, rest, sum_by-cons f x xs, sum_by-cons g x xs)

  -- and strictly where the terms of one view are
  pub sums_apart : (f g : V → ℕ) (views : List V) (by : ℕ) (v : V) → ((j : ℕ) (u : V) → get_elem? views j ≡ some u → f u ≤ g u) → get_elem? views by ≡ some v
      → f v < g v → sum_by f views < sum_by g views
  sums_apart f g [] by v le at lt = absurd (some-ne-none v (sym at))
  sums_apart f g (x ∷ xs) zero v le at lt =
      let e : f x ≡ f v = ap f (some-injective x v at) in
      let d : g x ≡ g v = ap g (some-injective x v at) in
      let rest = sums_ordered f g xs (λ j u a. le (suc j) u a) in omega (arith, e, d, lt, rest, sum_by-cons f x xs, sum_by-cons g x xs)
  sums_apart f g (x ∷ xs) (suc by) v le at lt =
      let here = le zero x refl in
      let rest = sums_apart f g xs by v (λ j u a. le (suc j) u a) at lt in omega (arith, here, rest, sum_by-cons f x xs, sum_by-cons g x xs)

  -- a sum of terms that are all 0
  pub sum_of_none : (f g : V → ℕ) (views : List V) → ((j : ℕ) (u : V) → get_elem? views j ≡ some u → g u ≡ 0 → f u ≡ 0) → sum_by g views ≡ 0 → sum_by f views
      ≡ 0
  sum_of_none f g [] idle none = refl
  sum_of_none f g (x ∷ xs) idle none =
      let sums = sum_by-cons g x xs in
      let here : f x ≡ 0 = idle zero x refl (omega (arith, none, sums)) in
      let rest : sum_by f xs ≡ 0 = sum_of_none f g xs (λ j u a. idle (suc j) u a) (omega (arith, none, sums)) in omega (arith, here, rest, sum_by-cons f x xs)

  -- where one view has all of g, it has all of an f that is 0 where g is
  pub sum_of_one : (f g : V → ℕ) (views : List V) (by : ℕ) (v : V) → ((j : ℕ) (u : V) → get_elem? views j ≡ some u → g u ≡ 0 → f u ≡ 0) → get_elem? views by
      ≡ some v → sum_by g views ≡ g v → sum_by f views ≡ f v
  sum_of_one f g [] by v idle at all = absurd (some-ne-none v (sym at))
  sum_of_one f g (x ∷ xs) zero v idle at all =
      let e : f x ≡ f v = ap f (some-injective x v at) in
      let d : g x ≡ g v = ap g (some-injective x v at) in
      let sums = sum_by-cons g x xs in
      let none : sum_by g xs ≡ 0 = omega (arith, d, all, sums) in
      let rest : sum_by f xs ≡ 0 = sum_of_none f g xs (λ j u a. idle (suc j) u a) none in omega (arith, e, rest, sum_by-cons f x xs)
  sum_of_one f g (x ∷ xs) (suc by) v idle at all =
      let within = term_within g xs by v at in
      let sums = sum_by-cons g x xs in
      let here : f x ≡ 0 = idle zero x refl (omega (arith, within, all, sums)) in
      let rest = sum_of_one f g xs by v (λ j u a. idle (suc j) u a) at (omega (arith, within, all, sums)) in omega (arith, here, rest, sum_by-cons f x xs)
