use Rattle.std.proofs.Common.{◌≡◌, ℕ, zero, suc, ◌+◌, ◌<◌, ◌≤◌, ◌==◌, nat_lt, if◌then◌else◌, Bool, true, false, List, [], ◌∷◌, length, map, slice_index_or}
use Rattle.std.proofs.Common.{take, refl, sym, ap, ◌∙◌, arith}
use Rattle.std.specs.List.{filter}
use Rattle.std.proofs.lemmas.Bool.Decides.{Decides-eqb}
use Rattle.edit_line.specs.Shapes.{Categorical, Domain, Numerical, codes_from, domain_with, place_in}
use Rattle.edit_line.specs.CodeFields.{TakesCodes, place_of, size_from, size_of}

-- A field, and the numbers of codes of a shape.

shifted : (i k : ℕ) → i + suc k ≡ suc i + k
shifted i k = omega arith

other : (i k : ℕ) → (i == (i + suc k)) ≡ false
other i k = by (i == (i + suc k)) refl
  where
    by : (b : Bool) → (i == (i + suc k)) ≡ b → b ≡ false
    by true e = absurd (omega (arith, (Decides-eqb i (i + suc k)).0 e))
    by false e = refl

itself : (i : ℕ) → (i == (i + 0)) ≡ true
itself i = (Decides-eqb i (i + 0)).1 (omega arith)

-- a field before the first has no codes
size-past : (i : ℕ) (shape : List Domain) (f : ℕ) → f < i → size_from i shape f ≡ 0
size-past i [] f less = refl
size-past i (Numerical ∷ shape) f less = size-past (suc i) shape f (omega arith)
size-past i (Categorical k ∷ shape) f less = by (i == f) refl (size-past (suc i) shape f (omega arith))
  where
    by : (b : Bool) → (i == f) ≡ b → size_from (suc i) shape f ≡ 0 → (if b then k else size_from (suc i) shape f) ≡ 0
    by true e rest = absurd (omega (arith, (Decides-eqb i f).0 e))
    by false e rest = rest

size-at : (i k : ℕ) (counts : List ℕ) → slice_index_or counts k 0 ≡ size_from i (map domain_with counts) (i + k)
size-at i k [] = refl
size-at i zero (zero ∷ counts) = sym (size-past (suc i) (map domain_with counts) (i + 0) (omega arith))
size-at i zero (suc n ∷ counts) = ap (λ b. if b then suc n else size_from (suc i) (map domain_with counts) (i + 0)) (sym (itself i))
size-at i (suc k) (zero ∷ counts) = size-at (suc i) k counts ∙ ap (λ f. size_from (suc i) (map domain_with counts) f) (sym (shifted i k))
size-at i (suc k) (suc n ∷ counts) =
    size-at (suc i) k counts ∙ ap (λ f. size_from (suc i) (map domain_with counts) f) (sym (shifted i k))
    ∙ ap (λ b. if b then suc n else size_from (suc i) (map domain_with counts) (i + suc k)) (sym (other i k))

above : (n : ℕ) → nat_lt 0 (suc n) ≡ true
above n = grind arith

place-at : (i k : ℕ) (counts : List ℕ) → 0 < slice_index_or counts k 0 → place_in (codes_from i (map domain_with counts)) (i + k)
    ≡ length (filter (λ n. nat_lt 0 n) (take k counts))
place-at i k [] takes = absurd (omega arith)
place-at i zero (zero ∷ counts) takes = absurd (omega arith)
place-at i zero (suc n ∷ counts) takes = ap (λ b. if b then 0 else suc (place_in (codes_from (suc i) (map domain_with counts)) (i + 0))) (itself i)
place-at i (suc k) (zero ∷ counts) takes = ap (λ f. place_in (codes_from (suc i) (map domain_with counts)) f) (shifted i k) ∙ place-at (suc i) k counts takes
place-at i (suc k) (suc n ∷ counts) takes =
    ap (λ b. if b then 0 else suc (place_in (codes_from (suc i) (map domain_with counts)) (i + suc k))) (other i k)
    ∙ ap suc (ap (λ f. place_in (codes_from (suc i) (map domain_with counts)) f) (shifted i k) ∙ place-at (suc i) k counts takes)
    ∙ ap (λ b. length (if b then suc n ∷ filter (λ n. nat_lt 0 n) (take k counts) else filter (λ n. nat_lt 0 n) (take k counts))) (sym (above n))

some-within : (counts : List ℕ) (k : ℕ) → 0 < slice_index_or counts k 0 → k < length counts
some-within [] k some = absurd (omega arith)
some-within (n ∷ counts) zero some = omega arith
some-within (n ∷ counts) (suc k) some = let below = some-within counts k some in omega arith

-- a field of a shape with these numbers of codes
module _ (shape : List Domain) (counts : List ℕ) (f : ℕ) (are : map domain_with counts ≡ shape) where
  pub size_of-is : slice_index_or counts f 0 ≡ size_of shape f
  size_of-is = size-at 0 f counts ∙ ap (λ n. size_from 0 (map domain_with counts) n) (omega arith) ∙ ap (λ s. size_of s f) are

  pub field-within : TakesCodes shape f → f < length counts
  field-within takes = some-within counts f (omega (arith, takes, size_of-is))

  pub place_of-is : TakesCodes shape f → length (filter (λ n. nat_lt 0 n) (take f counts)) ≡ place_of shape f
  place_of-is takes = sym (place-at 0 f counts (omega (arith, takes, size_of-is))) ∙ ap (λ n. place_in (codes_from 0 (map domain_with counts)) n) (omega arith)
      ∙ ap (λ s. place_of s f) are

-- past the last field there is none
past-none : (counts : List ℕ) (f : ℕ) → length counts ≤ f → slice_index_or counts f 0 ≡ 0
past-none [] f past = refl
past-none (n ∷ counts) zero past = absurd (omega arith)
past-none (n ∷ counts) (suc f) past = past-none counts f (omega arith)

pub size_of-past : (shape : List Domain) (counts : List ℕ) (f : ℕ) → map domain_with counts ≡ shape → length counts ≤ f → 0 ≡ size_of shape f
size_of-past shape counts f are past = sym (past-none counts f past) ∙ size_of-is shape counts f are
