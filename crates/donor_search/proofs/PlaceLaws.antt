use Rattle.std.proofs.Common.{◌≡◌, ℕ, zero, suc, ◌+◌, ◌<◌, ◌≤◌, Bool, true, false, List, [], ◌∷◌, ◌++◌, All, Some, append-nil, drop, length, slice_get}
use Rattle.std.proofs.Common.{slice_index_or, add-one, refl, sym, ap, ◌∙◌, subst, arith}
use Rattle.std.specs.List.{AllPairs}
use Rattle.std.specs.List.Sorted.{IsStrictlyIncreasing}
use Rattle.std.proofs.lemmas.List.{append_assoc, at_drop_all, drop_more}
use Rattle.std.proofs.lemmas.List.Elements.{All-append, All-cons, All-nil}
use Rattle.std.proofs.lemmas.List.Kept.{AllPairs-cons}
use Rattle.std.proofs.lemmas.Option.{slice_get_within}
use Rattle.donor_search.specs.Places.{place_if, places_from}

-- The places of the elements that pass a test.

-- the element at a place, by the other reading
pub get-at : {X : Type 0} (xs : List X) (k : ℕ) (x d : X) → slice_get xs k ≡ Some x → slice_index_or xs k d ≡ x
get-at [] k x d at = absurd (cc)
get-at (y ∷ xs) zero x d at = cc
get-at (y ∷ xs) (suc k) x d at = get-at xs k x d at

module _ {X : Type 0} (test : X → Bool) where
  -- what holds of the place of each element that passes holds of each place
  pub each-place : (P : ℕ → Type 0) (i : ℕ) (xs : List X) → ((k : ℕ) (x : X) → slice_get xs k ≡ Some x → test x ≡ true → P (i + k))
      → All P (places_from test i xs)
  each-place P i [] each = All-nil P
  each-place P i (x ∷ xs) each =
      All-append P (place_if (test x) i) (places_from test (suc i) xs) (by (test x) (λ passes. subst P (first i) (each 0 x refl passes)))
      (each-place P (suc i) xs (λ k y at passes. subst P (next i k) (each (suc k) y at passes)))
    where
      by : (b : Bool) → (b ≡ true → P i) → All P (place_if b i)
      by true holds = All-cons P i [] (holds refl) (All-nil P)
      by false holds = All-nil P

      first : (i : ℕ) → i + 0 ≡ i
      first i = omega arith

      next : (i k : ℕ) → i + suc k ≡ suc i + k
      next i k = omega arith

  -- the places rise
  pub places-rise : (i : ℕ) (xs : List X) → AllPairs (λ (a b : ℕ). a < b) (places_from test i xs)
  places-rise i [] = λ a b d less within. absurd (omega (arith, within))
  places-rise i (x ∷ xs) = by (test x) (places-rise (suc i) xs)
    where
      later : (k : ℕ) → i < suc i + k
      later k = omega arith

      by : (b : Bool) → AllPairs (λ (a b : ℕ). a < b) (places_from test (suc i) xs)
          → AllPairs (λ (a b : ℕ). a < b) (place_if b i ++ places_from test (suc i) xs)
      by true rest = AllPairs-cons (λ (a b : ℕ). a < b) i (places_from test (suc i) xs)
          (each-place (λ (n : ℕ). i < n) (suc i) xs (λ k y at passes. later k)) rest
      by false rest = rest

  -- all places, counted from none: what holds of each at which the element passes
  pub each-passing : (P : ℕ → Type 0) (xs : List X) (d : X) → ((k : ℕ) → k < length xs → test (slice_index_or xs k d) ≡ true → P k)
      → All P (places_from test 0 xs)
  each-passing P xs d each = each-place P 0 xs (λ k x at passes.
      subst P (from_zero k) (each k (slice_get_within xs k x at) (ap test (get-at xs k x d at) ∙ passes)))
    where
      from_zero : (k : ℕ) → k ≡ 0 + k
      from_zero k = omega arith

  -- and they rise
  pub all-rise : (xs : List X) → IsStrictlyIncreasing (places_from test 0 xs)
  all-rise xs k within = places-rise 0 xs k (k + 1) 0 (omega arith) within

  -- where none is left, all are found
  pub found-all : (xs : List X) (i : ℕ) (found : List ℕ) → length xs ≤ i → found ++ places_from test i (drop i xs) ≡ places_from test 0 xs
      → found ≡ places_from test 0 xs
  found-all xs i found past before =
      sym (append-nil found) ∙ ap (λ (ns : List ℕ). found ++ ns) (sym (at_drop_all (places_from test i) xs i past)) ∙ before

  -- one element more is looked at
  pub found-more : (xs : List X) (i : ℕ) (d : X) (found new before : List ℕ) → i < length xs
      → new ≡ found ++ place_if (test (slice_index_or xs i d)) i → found ++ places_from test i (drop i xs) ≡ before
      → new ++ places_from test (suc i) (drop (suc i) xs) ≡ before
  found-more xs i d found new before there more so_far =
      let here : place_if (test (slice_index_or xs i d)) i ++ places_from test (suc i) (drop (suc i) xs) ≡ places_from test i (drop i xs) =
      sym (ap (λ (ys : List X). places_from test i ys) (rw add-one at (drop_more xs i d there))) in
      ap (λ (ns : List ℕ). ns ++ places_from test (suc i) (drop (suc i) xs)) more
      ∙ append_assoc found (place_if (test (slice_index_or xs i d)) i) (places_from test (suc i) (drop (suc i) xs))
      ∙ ap (λ (ns : List ℕ). found ++ ns) here ∙ so_far
