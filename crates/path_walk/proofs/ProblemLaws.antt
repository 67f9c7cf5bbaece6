use Rattle.std.proofs.Common.{◌≡◌, ◌&&◌, ◌||◌, ◌==◌, ℕ, zero, suc, ◌+◌, ◌<◌, ◌≤◌, Bool, true, false, List, [], ◌∷◌, length, take, slice_index_or}
use Rattle.std.proofs.Common.{IsTrue, refl, sym, ap, ◌∙◌, subst, arith}
use Rattle.std.proofs.lemmas.Bool.Decides.{Decides-eqb}
use Rattle.std.proofs.Math.Numerals.{add-one}
use Rattle.std.proofs.lemmas.List.{take_all}
use Rattle.edit_model.specs.Corrections as corrections
use Rattle.edit_model.specs.FieldSets.{has_number}
use Rattle.edit_line.specs.Shapes.{has_field, number_fields, shape_of}
use Rattle.edit_line.proofs.ShapeLaws.{same_fields}
use Rattle.linear_elim.specs.Systems.{AreNumerical, chosen_fields}
use Rattle.bound_cert.specs.Paths.{changes, path_place}
use Rattle.edit_paths.specs.Cases.{SearchCase}
use Rattle.edit_paths.specs.Paths.{changed_numbers, number_count}
use Rattle.edit_paths.proofs.ChildLaws.{chosen-changed}
use Rattle.edit_paths.proofs.FieldPlaces.{Placed, numbers-placed}

-- The numerical fields of a case, and those that a path changes.

-- a field's place is the place at which it stands
pub placed-at : (c : SearchCase) (k i : ℕ) (fields : List ℕ) → Placed c k fields → i < length fields
    → path_place c.survey.fields (slice_index_or fields i 0) ≡ k + i
placed-at c k i [] placed below = absurd (omega arith)
placed-at c k zero (f ∷ fields) placed below = placed.0 ∙ omega arith
placed-at c k (suc i) (f ∷ fields) placed below = placed-at c (suc k) i fields placed.1 (omega arith) ∙ omega arith

has-next : (fields : List ℕ) (i f : ℕ) → i < length fields
    → has_field (take (suc i) fields) f ≡ (has_field (take i fields) f || (slice_index_or fields i 0 == f))
has-next [] i f below = absurd (omega arith)
has-next (g ∷ fields) zero f below = or_false (g == f)
  where
    or_false : (b : Bool) → (b || false) ≡ b
    or_false true = refl
    or_false false = refl
has-next (g ∷ fields) (suc i) f below =
    ap (λ b. (g == f) || b) (has-next fields i f (omega arith)) ∙ or_assoc (g == f) (has_field (take i fields) f) (slice_index_or fields i 0 == f)
  where
    or_assoc : (a b d : Bool) → (a || (b || d)) ≡ ((a || b) || d)
    or_assoc true b d = refl
    or_assoc false b d = refl

has-more : (fields : List ℕ) (i f : ℕ) → i < length fields
    → has_field (take (i + 1) fields) f ≡ (has_field (take i fields) f || (slice_index_or fields i 0 == f))
has-more fields i f below = ap (λ (n : ℕ). has_field (take n fields) f) (add-one i) ∙ has-next fields i f below

module _ (c : SearchCase) (numbers : List ℕ) (numbers_are : numbers ≡ corrections.number_fields c.survey.fields) where
  -- the numerical fields are those of the shape
  pub numbers-same : numbers ≡ number_fields (shape_of c.survey.fields)
  numbers-same = same_fields numbers c.survey.fields (shape_of c.survey.fields) numbers_are refl

  pub numbers-counted : length numbers ≡ number_count c
  numbers-counted = ap (λ (ns : List ℕ). length ns) numbers-same

  module _ (path : List Bool) where
    -- the changed ones among the first so many, as a set
    abbrev pub AreChanged : ℕ → ℕ → Type 0
    AreChanged i set = (f : ℕ) → has_number set f ≡ (has_field (take i (number_fields (shape_of c.survey.fields))) f && changes c.survey.fields path f)

    -- one field more
    pub changed-more : (i set new : ℕ) (changed : Bool) → i < length numbers → changed ≡ slice_index_or path i false → AreChanged i set
        → ((f : ℕ) → has_number new f ≡ (has_number set f || ((slice_index_or numbers i 0 == f) && changed))) → AreChanged (i + 1) new
    changed-more i set new changed below letter before more f =
        more f ∙ ap (λ b. b || ((slice_index_or numbers i 0 == f) && changed)) (before f)
        ∙ ap (λ (ns : List ℕ). (has_field (take i (number_fields (shape_of c.survey.fields))) f && changes c.survey.fields path f) ||
        ((slice_index_or ns i 0 == f) && changed)) numbers-same
        ∙ by (slice_index_or (number_fields (shape_of c.survey.fields)) i 0 == f) refl
        ∙ ap (λ b. b && changes c.survey.fields path f) (sym (has-more (number_fields (shape_of c.survey.fields)) i f (omega (arith, below, numbers-counted))))
      where
        by : (b : Bool) → (slice_index_or (number_fields (shape_of c.survey.fields)) i 0 == f) ≡ b
            → ((has_field (take i (number_fields (shape_of c.survey.fields))) f && changes c.survey.fields path f) || (b && changed))
            ≡ ((has_field (take i (number_fields (shape_of c.survey.fields))) f || b) && changes c.survey.fields path f)
        by false e = both (has_field (take i (number_fields (shape_of c.survey.fields))) f) (changes c.survey.fields path f)
          where
            both : (h t : Bool) → ((h && t) || false) ≡ ((h || false) && t)
            both true true = refl
            both true false = refl
            both false t = refl
        by true e =
            let here : path_place c.survey.fields f ≡ i =
            ap (λ n. path_place c.survey.fields n) (sym ((Decides-eqb (slice_index_or (number_fields (shape_of c.survey.fields)) i 0) f).0 e))
            ∙ placed-at c 0 i (number_fields (shape_of c.survey.fields)) (numbers-placed c) (omega (arith, below, numbers-counted)) ∙ omega arith in
            ap (λ t. (has_field (take i (number_fields (shape_of c.survey.fields))) f && changes c.survey.fields path f) || t)
            (letter ∙ sym (ap (λ n. slice_index_or path n false) here))
            ∙ both (has_field (take i (number_fields (shape_of c.survey.fields))) f) (changes c.survey.fields path f)
          where
            both : (h t : Bool) → ((h && t) || t) ≡ ((h || true) && t)
            both true true = refl
            both true false = refl
            both false t = refl

    -- all of them
    module _ (i set : ℕ) (past : length numbers ≤ i) (all : AreChanged i set) where
      pub whole : (f : ℕ) → has_number set f ≡ (has_field (number_fields (shape_of c.survey.fields)) f && changes c.survey.fields path f)
      whole f =
          all f ∙ ap (λ (ns : List ℕ). has_field ns f && changes c.survey.fields path f)
          (take_all i (number_fields (shape_of c.survey.fields)) (omega (arith, past, numbers-counted)))

      pub changed-chosen : chosen_fields (shape_of c.survey.fields) set ≡ changed_numbers c path
      changed-chosen = chosen-changed c path set (λ f there. whole f ∙ ap (λ b. b && changes c.survey.fields path f) there)

      pub changed-numerical : AreNumerical (shape_of c.survey.fields) set
      changed-numerical f has =
          by (has_field (number_fields (shape_of c.survey.fields)) f) (changes c.survey.fields path f) (subst (λ b. IsTrue b) (whole f) has)
        where
          by : (h t : Bool) → IsTrue (h && t) → h ≡ true
          by true t has = refl
          by false t has = absurd (cc)
