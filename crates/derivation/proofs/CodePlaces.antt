use Rattle.std.proofs.Common.{◌≡◌, ℕ, suc, ◌+◌, ◌<◌, ◌==◌, ◌||◌, Bool, true, false, cond, not, if◌then◌else◌, List, [], ◌∷◌, Some, None, length, nat_lt, refl}
use Rattle.std.proofs.Common.{ap, ◌∙◌, arith, slice_index_or, slice_set, sym}
use Rattle.std.specs.List.{position, position_or_len}
use Rattle.std.proofs.lemmas.Bool.Decides.{nat_tests}
use Rattle.edit_model.specs.declared.value.Value.{Value}
use Rattle.edit_line.specs.Boxes.{box_of}
use Rattle.edit_line.specs.CodeFields.{place_of}
use Rattle.edit_line.specs.Shapes.{Domain, code_fields, has_field, place_in, whole_sets}
use Rattle.edit_line.proofs.ShapeLaws.{length-wholes, place-within}
use Rattle.derivation.specs.inner.Meanings.{place_there}
use Rattle.derivation.specs.ValidSteps.{fixed_sets, has_value, only_if, whole_box}
use Rattle.derivation.specs.declared.proved.Proved.TheVariants.{Box}

-- The places of a survey's categorical fields.

-- the place of the field, as it is looked for
place-first : (fields : List ℕ) (f : ℕ) → position_or_len (λ i. i == f) fields ≡ place_in fields f
place-first [] f = refl
place-first (i ∷ fields) f = by (i == f) (place-first fields f)
  where
    by : (b : Bool) → position_or_len (λ i. i == f) fields ≡ place_in fields f → cond (not b) (1 + position_or_len (λ i. i == f) fields) 0
        ≡ (if b then 0 else suc (place_in fields f))
    by true e = refl
    by false e = omega (arith, e)

place-before : (fields : List ℕ) (f : ℕ) → nat_lt (place_in fields f) (length fields) ≡ has_field fields f
place-before [] f = refl
place-before (i ∷ fields) f = by (i == f) (place-before fields f)
  where
    first : (n : ℕ) → nat_lt 0 (suc n) ≡ true
    first n = grind arith

    below : (a b : ℕ) → nat_lt (suc a) (suc b) ≡ nat_lt a b
    below a b = grind (arith, nat_tests)

    by : (b : Bool) → nat_lt (place_in fields f) (length fields) ≡ has_field fields f → nat_lt (if b then 0 else suc (place_in fields f)) (suc (length fields))
        ≡ (b || has_field fields f)
    by true e = first (length fields)
    by false e = below (place_in fields f) (length fields) ∙ e

-- it is the place in the list, if it is there
pub place-found : (fields : List ℕ) (f : ℕ) → position (λ i. i == f) fields ≡ place_there fields f
place-found fields f =
    ap (λ n. cond (nat_lt n (length fields)) (Some n) None) (place-first fields f) ∙ by (nat_lt (place_in fields f) (length fields)) (has_field fields f)
    (place-before fields f)
  where
    by : (a b : Bool) → a ≡ b → cond a (Some (place_in fields f)) None ≡ (if b then Some (place_in fields f) else None)
    by true true e = refl
    by true false e = absurd (cc)
    by false true e = absurd (cc)
    by false false e = refl

-- where there is a place, the field is there
pub there-has : (fields : List ℕ) (f place : ℕ) → place_there fields f ≡ Some place → (has_field fields f ≡ true) × (place ≡ place_in fields f)
there-has fields f place e = by (has_field fields f) e
  where
    by : (b : Bool) → (if b then Some (place_in fields f) else None) ≡ Some place → (b ≡ true) × (place ≡ place_in fields f)
    by true h = (refl, cc)
    by false h = absurd (cc)

-- a categorical field has a set of codes
pub place-wholes : (shape : List Domain) (f place : ℕ) → place_there (code_fields shape) f ≡ Some place → place < length (whole_sets shape)
place-wholes shape f place e = let (there, is) = there-has (code_fields shape) f place e in
    omega (arith, is, place-within (code_fields shape) f there, length-wholes 0 shape)

-- ---- a box that is made whole at the place of a field

module _ (shape : List Domain) (f place : ℕ) (sets : List ℕ) (at : place_there (code_fields shape) f ≡ Some place) where
  place_is : place ≡ place_of shape f
  place_is = (there-has (code_fields shape) f place at).1

  -- whether the value is a code of the set there decides on it
  pub fixed-by : (v found : Value) (read : List ℕ) (b : Bool) → found ≡ v → read ≡ sets → has_value (slice_index_or read place 0) found ≡ b
      → fixed_sets shape f v sets ≡ only_if b (whole_box shape f sets)
  fixed-by v found read b found_is read_is is =
      ap (λ b. only_if b (whole_box shape f sets)) (sym (λ k. has_value (slice_index_or (read_is k) (place_is k) 0) (found_is k)) ∙ is)

  -- what it is made with
  pub whole-made : (items : List ℕ) (whole : ℕ) → items ≡ sets → whole ≡ slice_index_or (whole_sets shape) place 0
      → Box (box_of shape (slice_set items place whole)) ≡ whole_box shape f sets
  whole-made items whole items_are whole_is =
      (λ k. Box (box_of shape (slice_set (items_are k) place (whole_is k))))
      ∙ (λ k. Box (box_of shape (slice_set sets (place_is k) (slice_index_or (whole_sets shape) (place_is k) 0))))
