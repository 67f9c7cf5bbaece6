use Rattle.std.proofs.Common.{◌≡◌, ◌||◌, ◌==◌, ◌++◌, ◌⊎◌, inl, inr, ℕ, Bool, true, false, List, [], ◌∷◌, refl, sym, ap, ◌∙◌}
use Rattle.std.specs.List.{filter}
use Rattle.std.proofs.lemmas.Bool.Decides.{Decides-eqb}
use Rattle.edit_line.specs.Reductions.{IsIn}
use Rattle.edit_line.specs.Shapes.{has_field}
use Rattle.edit_line.proofs.BoolLaws.{or_grouped, or_true, true-first, true-second}
use Rattle.edit_line.proofs.Members.{in-filter, in-filter-out}

-- Whether a list of fields has a field.

-- the test is true of the fields that stand there
pub there-has : (i : ℕ) (fields : List ℕ) → IsIn i fields → has_field fields i ≡ true
there-has i [] none = absurd none
there-has i (j ∷ fields) (inl same) = ap (λ b. b || has_field fields i) ((Decides-eqb j i).1 (sym same))
there-has i (j ∷ fields) (inr there) = ap (λ b. (j == i) || b) (there-has i fields there) ∙ or_true (j == i)

-- and of no others
pub has-there : (i : ℕ) (fields : List ℕ) → has_field fields i ≡ true → IsIn i fields
has-there i [] h = absurd (cc)
has-there i (j ∷ fields) h = by (j == i) (Decides-eqb j i).0 (has-there i fields) h
  where
    by : (b : Bool) → (b ≡ true → j ≡ i) → (has_field fields i ≡ true → IsIn i fields) → (b || has_field fields i) ≡ true → (i ≡ j) ⊎ IsIn i fields
    by true same rest h = inl (sym (same h))
    by false same rest h = inr (rest h)

-- a field of two lists, one behind the other
pub has-append : (i : ℕ) (first second : List ℕ) → has_field (first ++ second) i ≡ (has_field first i || has_field second i)
has-append i [] second = refl
has-append i (j ∷ first) second = ap (λ b. (j == i) || b) (has-append i first second) ∙ sym (or_grouped (j == i) (has_field first i) (has_field second i))

pub has-left : (i : ℕ) (first second : List ℕ) → has_field first i ≡ true → has_field (first ++ second) i ≡ true
has-left i first second there = has-append i first second ∙ true-first _ _ there

pub has-right : (i : ℕ) (first second : List ℕ) → has_field second i ≡ true → has_field (first ++ second) i ≡ true
has-right i first second there = has-append i first second ∙ true-second _ _ there

-- a field that stands there is one of those that pass a test exactly where it passes
pub has-filter : (test : ℕ → Bool) (i : ℕ) (fields : List ℕ) → has_field fields i ≡ true → has_field (filter test fields) i ≡ test i
has-filter test i fields there = by (test i) refl (has_field (filter test fields) i) refl
  where
    by : (passes : Bool) → test i ≡ passes → (has : Bool) → has_field (filter test fields) i ≡ has → has ≡ passes
    by true is has told = sym told ∙ there-has i (filter test fields) (in-filter test i fields is (has-there i fields there))
    by false is true told = absurd (cc (sym is ∙ (in-filter-out test i fields (has-there i (filter test fields) told)).1))
    by false is false told = refl
