-- Elements of a list, by their places.
use Rattle.std.proofs.Common.{◌≡◌, ℕ, zero, suc, ◌<◌, List, [], ◌∷◌, Some, get_or, length, slice_get, refl, sym, ap, arith}

-- an element that was read stands at its place
pub read-at : {X : Type 0} (xs : List X) (i : ℕ) (x : X) → i < length xs → x ≡ get_or xs i x → slice_get xs i ≡ Some x
read-at [] i x below is = absurd (omega (arith, below))
read-at (y ∷ xs) zero x below is = ap Some (sym is)
read-at (y ∷ xs) (suc i) x below is = read-at xs i x (omega (arith, below)) is

-- at each place there is one
pub some-at : {X : Type 0} (xs : List X) (i : ℕ) → i < length xs → (x : X) × (slice_get xs i ≡ Some x)
some-at [] i below = absurd (omega (arith, below))
some-at (x ∷ xs) zero below = (x, refl)
some-at (x ∷ xs) (suc i) below = some-at xs i (omega (arith, below))
