use Rattle.std.proofs.Common.{◌≡◌, ℕ, zero, suc, ◌+◌, List, [], ◌∷◌, Option, Some, None, IsSomeAnd, map, slice_get, slice_index_or, refl, ap, ◌∙◌, arith}

-- Places of elements in a list.

-- the list from place i on
abbrev pub StandsAt : {X : Type 0} → List X → ℕ → List X → Type 0
StandsAt whole i xs = (k : ℕ) → slice_get whole (i + k) ≡ slice_get xs k

pub first-at : {X : Type 0} (whole : List X) (i : ℕ) (x : X) (xs : List X) → StandsAt whole i (x ∷ xs) → slice_get whole i ≡ Some x
first-at whole i x xs at = ap (λ k. slice_get whole k) same ∙ at 0
  where
    same : i ≡ i + 0
    same = omega arith

pub later-at : {X : Type 0} (whole : List X) (i : ℕ) (x : X) (xs : List X) → StandsAt whole i (x ∷ xs) → StandsAt whole (suc i) xs
later-at whole i x xs at k = ap (λ j. slice_get whole j) same ∙ at (suc k)
  where
    same : suc i + k ≡ i + suc k
    same = omega arith

-- a list stands whole from its own start on
pub whole-at : {X : Type 0} (xs : List X) → StandsAt xs 0 xs
whole-at xs k = ap (λ n. slice_get xs n) (omega arith)

-- what is said of the element that is found is said of one that is there
pub some_with : {X : Type 0} (P : X → Type 0) (o : Option X) → IsSomeAnd o P → (x : X) × (o ≡ Some x) × P x
some_with P None h = absurd h
some_with P (Some x) h = (x, refl, h)

-- what is made of the element at a place stands at that place
pub get-map : {X Y : Type 0} (g : X → Y) (xs : List X) (i : ℕ) (x : X) → slice_get xs i ≡ Some x → slice_get (map g xs) i ≡ Some (g x)
get-map g [] i x e = absurd (cc)
get-map g (y ∷ xs) zero x e = let same : y ≡ x = cc in ap (λ z. Some (g z)) same
get-map g (y ∷ xs) (suc i) x e = get-map g xs i x e

-- and is made of the element there
pub get-map-out : {X Y : Type 0} (g : X → Y) (xs : List X) (i : ℕ) (y : Y) → slice_get (map g xs) i ≡ Some y → (x : X) × (slice_get xs i ≡ Some x) × (y ≡ g x)
get-map-out g [] i y e = absurd (cc)
get-map-out g (x ∷ xs) zero y e = (x, refl, cc)
get-map-out g (x ∷ xs) (suc i) y e = get-map-out g xs i y e

pub index-map : {X Y : Type 0} (g : X → Y) (xs : List X) (i : ℕ) (x : X) (d : Y) → slice_get xs i ≡ Some x → slice_index_or (map g xs) i d ≡ g x
index-map g [] i x d e = absurd (cc)
index-map g (y ∷ xs) zero x d e = let same : y ≡ x = cc in ap g same
index-map g (y ∷ xs) (suc i) x d e = index-map g xs i x d e
