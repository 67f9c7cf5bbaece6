use Rattle.std.proofs.Common.{◌≡◌, ℕ, suc, ◌+◌, ◌<◌, ◌≤◌, ◌==◌, ◌&&◌, ◌||◌, Bool, true, false, if◌then◌else◌, List, [], ◌∷◌, drop, get_or, length, map, ℤ, pos}
use Rattle.std.proofs.Common.{refl, sym, ap, ◌∙◌, add-one, arith}
use Rattle.std.specs.Ordering.{int_eq}
use Rattle.std.proofs.Math.Seq.{drop-cons}
use Rattle.std.proofs.lemmas.Bool.Decides.{Decides-eqb, Decides-int_eq}
use Rattle.std.proofs.lemmas.List.{drop_all}
use Rattle.edit_model.specs.Points.{has_code}
use Rattle.edit_model.specs.RowPoints.{code_in}
use Rattle.edit_model.specs.Rows.{value_of}
use Rattle.edit_model.specs.declared.value.Value.{Value}
use Rattle.edit_line.specs.Sets.{are_codes_in}
use Rattle.edit_line.specs.Shapes.{beside}
use Rattle.edit_line.specs.Sums.{stands_only}
use Rattle.edit_line.proofs.BoolLaws.{by_test, or_true}

-- Loops over the fields of one kind and what stands beside them.

-- ---- the factor beside a field

module _ (fields : List ℕ) (factors : List ℤ) (f i : ℕ) (many : length factors ≡ length fields) where
  beside-at : i < length fields → beside (pos 0) (drop i fields) (drop i factors) f
      ≡ (if get_or fields i 0 == f then get_or factors i (pos 0) else beside (pos 0) (drop (i + 1) fields) (drop (i + 1) factors) f)
  beside-at below =
      rw (add-one) (ap (λ fs. beside (pos 0) fs (drop i factors) f) (drop-cons fields i 0 below)
      ∙ ap (λ (as_ : List ℤ). beside (pos 0) (get_or fields i 0 ∷ drop (suc i) fields) as_ f) (drop-cons factors i (pos 0) (omega arith)))

  pub beside-later : i < length fields → (get_or fields i 0 ≡ f → ⊥) → beside (pos 0) (drop (i + 1) fields) (drop (i + 1) factors) f
      ≡ beside (pos 0) (drop i fields) (drop i factors) f
  beside-later below apart =
      sym (beside-at below ∙ ap (λ b. if b then get_or factors i (pos 0) else beside (pos 0) (drop (i + 1) fields) (drop (i + 1) factors) f)
      (by_test (get_or fields i 0 == f) (λ same. absurd (apart ((Decides-eqb (get_or fields i 0) f).0 same))) (λ differ. differ)))

-- ---- fields that pass a test

module _ (test : ℕ → Bool) (fields : List ℕ) (factors : List ℤ) (i : ℕ) (many : length factors ≡ length fields) where
  pub only-at : i < length fields
      → stands_only test (drop i fields) (drop i factors)
      ≡ ((int_eq (get_or factors i (pos 0)) (pos 0) || test (get_or fields i 0)) && stands_only test (drop (i + 1) fields) (drop (i + 1) factors))
  only-at below =
      rw (add-one) (ap (λ fs. stands_only test fs (drop i factors)) (drop-cons fields i 0 below)
      ∙ ap (λ (as_ : List ℤ). stands_only test (get_or fields i 0 ∷ drop (suc i) fields) as_) (drop-cons factors i (pos 0) (omega arith)))

  -- a field that may stand there goes on
  pub only-more : i < length fields → (int_eq (get_or factors i (pos 0)) (pos 0) || test (get_or fields i 0)) ≡ true
      → stands_only test (drop (i + 1) fields) (drop (i + 1) factors) ≡ stands_only test (drop i fields) (drop i factors)
  only-more below may = sym (only-at below ∙ ap (λ b. b && stands_only test (drop (i + 1) fields) (drop (i + 1) factors)) may)

-- the factor 0 does not count
pub zero-may : (a : ℤ) (passes : Bool) → a ≡ pos 0 → (int_eq a (pos 0) || passes) ≡ true
zero-may a passes none = ap (λ b. b || passes) ((Decides-int_eq a (pos 0)).1 none)

pub field-may : (a : ℤ) (passes : Bool) → passes ≡ true → (int_eq a (pos 0) || passes) ≡ true
field-may a passes is = ap (λ b. int_eq a (pos 0) || b) is ∙ or_true (int_eq a (pos 0))

-- ---- the codes of a record

-- the codes of a record at fields
abbrev pub codes_of_row : List Value → List ℕ → List ℕ
codes_of_row row fields = map (λ f. code_in (value_of row f)) fields

pub inside-at : (sets fields : List ℕ) (row : List Value) (i e d : ℕ) → i < length fields → length sets ≡ length fields
    → are_codes_in (drop i sets) (codes_of_row row (drop i fields))
    ≡ (has_code (get_or sets i e) (code_in (value_of row (get_or fields i d))) && are_codes_in (drop (i + 1) sets) (codes_of_row row (drop (i + 1) fields)))
inside-at sets fields row i e d below same =
    rw (add-one) (ap (λ fs. are_codes_in (drop i sets) (codes_of_row row fs)) (drop-cons fields i d below)
    ∙ ap (λ ss. are_codes_in ss (codes_of_row row (get_or fields i d ∷ drop (suc i) fields))) (drop-cons sets i e (omega arith)))

pub inside-end : (sets fields : List ℕ) (row : List Value) (i : ℕ) → length fields ≤ i → are_codes_in (drop i sets) (codes_of_row row (drop i fields)) ≡ true
inside-end sets fields row i past = ap (λ fs. are_codes_in (drop i sets) (codes_of_row row fs)) (drop_all i fields past) ∙ none (drop i sets)
  where
    none : (ss : List ℕ) → are_codes_in ss [] ≡ true
    none [] = refl
    none (s ∷ ss) = refl

module _ (sets fields : List ℕ) (row : List Value) (whole : Bool) (i f set code : ℕ) (below : i < length fields) (same : length sets ≡ length fields)
    (field_is : f ≡ get_or fields i 0) (set_is : set ≡ get_or sets i 0) (code_is : code ≡ code_in (value_of row f))
    (before : are_codes_in (drop i sets) (codes_of_row row (drop i fields)) ≡ whole) where
  here : (has_code set code && are_codes_in (drop (i + 1) sets) (codes_of_row row (drop (i + 1) fields))) ≡ whole
  here =
      ap (λ s. has_code s code && are_codes_in (drop (i + 1) sets) (codes_of_row row (drop (i + 1) fields))) set_is
      ∙ ap (λ c. has_code (get_or sets i 0) c && are_codes_in (drop (i + 1) sets) (codes_of_row row (drop (i + 1) fields)))
      (code_is ∙ ap (λ n. code_in (value_of row n)) field_is)
      ∙ sym (inside-at sets fields row i 0 0 below same) ∙ before

  pub inside-stops : has_code set code ≡ false → false ≡ whole
  inside-stops out = sym (ap (λ b. b && are_codes_in (drop (i + 1) sets) (codes_of_row row (drop (i + 1) fields))) out) ∙ here

  pub inside-goes : has_code set code ≡ true → are_codes_in (drop (i + 1) sets) (codes_of_row row (drop (i + 1) fields)) ≡ whole
  inside-goes out = sym (ap (λ b. b && are_codes_in (drop (i + 1) sets) (codes_of_row row (drop (i + 1) fields))) out) ∙ here
