-- Lists of numbers that rise.
use Rattle.std.proofs.Common.{◌≡◌, ℕ, ◌+◌, ◌<◌, ◌≤◌, List, [], ◌∷◌, ◌++◌, length, get_or, subst, ⊎_elim, All, arith}
use Rattle.std.specs.List.Sorted.{IsStrictlyIncreasing}
use Rattle.std.proofs.lemmas.List.{length_push, get_or_push, get_or_append_left}
use Rattle.std.proofs.lemmas.Bool.{cases_lt}

-- one more number that is greater than all before it
pub rising_push : (xs : List ℕ) (x : ℕ) → IsStrictlyIncreasing xs → All (λ y. y < x) xs → IsStrictlyIncreasing (xs ++ x ∷ [])
rising_push xs x up above k within = ⊎_elim inside at_end (cases_lt (k + 1) (length xs))
  where
    len : k + 1 < length xs + 1
    len = subst (λ n. k + 1 < n) (length_push xs x) within

    here : k < length xs → get_or (xs ++ x ∷ []) k 0 ≡ get_or xs k 0
    here lt = get_or_append_left xs (x ∷ []) 0 k lt

    inside : k + 1 < length xs → get_or (xs ++ x ∷ []) k 0 < get_or (xs ++ x ∷ []) (k + 1) 0
    inside lt = omega (arith, here (omega (arith, lt)), get_or_append_left xs (x ∷ []) 0 (k + 1) lt, up k lt)

    at_end : length xs ≤ k + 1 → get_or (xs ++ x ∷ []) k 0 < get_or (xs ++ x ∷ []) (k + 1) 0
    at_end ge = omega (arith, here (omega (arith, len)), get_or_push xs x 0 (k + 1) (omega (arith, ge, len)), above k 0 (omega (arith, len)))
