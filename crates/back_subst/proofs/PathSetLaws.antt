use Rattle.std.proofs.Common.{◌≡◌, ◌≢◌, ◌<◌, ◌≤◌, ◌+◌, ◌==◌, ◌&&◌, ◌||◌, ℕ, zero, suc, nat_lt, Bool, true, false, List, [], ◌∷◌, get_or, length, refl}
use Rattle.std.proofs.Common.{sym, ap, ◌∙◌, arith}
use Rattle.std.proofs.lemmas.Bool.Decides.{Decides-eqb, Decides-ltb}
use Rattle.std.proofs.lemmas.List.{get_or-map, get_or_default, length-map, same_lists}
use Rattle.edit_model.specs.Corrections.{path_order}
use Rattle.edit_model.specs.FieldSets.{has_number, with_number}
use Rattle.edit_model.specs.declared.field.Field.{Field}
use Rattle.edit_model.proofs.FieldSetLaws.{has-with}
use Rattle.edit_model.proofs.OrderLaws.{order-length}
use Rattle.edit_model.specs.Parts.{survey_of}
use Rattle.bound_cert.specs.Paths.{path_place}
use Rattle.edit_paths.specs.Cases.{SearchCase}
use Rattle.edit_paths.proofs.FieldPlaces.{Placed, fields-placed}
use Rattle.back_subst.specs.Gifts.{path_of}

-- The set of the fields that a path changes, letter by letter.

-- ---- each field has its own place

module _ (c : SearchCase) where
  -- the place of the field that stands at a place
  placed-at : (k j : ℕ) (fields : List ℕ) → Placed c k fields → j < length fields → path_place c.survey.fields (get_or fields j 0) ≡ k + j
  placed-at k j [] placed below = absurd (omega arith)
  placed-at k zero (f ∷ fields) placed below = placed.0 ∙ omega arith
  placed-at k (suc j) (f ∷ fields) placed below = placed-at (suc k) j fields placed.1 (omega arith) ∙ omega arith

  pub place-own : (k : ℕ) → k < length (path_order c.survey.fields) → path_place c.survey.fields (get_or (path_order c.survey.fields) k 0) ≡ k
  place-own k below = placed-at 0 k (path_order c.survey.fields) (fields-placed c) below ∙ omega arith

abbrev bare : List Field → SearchCase
bare fields = record { survey = survey_of fields []; edits = []; row = [] }

distinct-at : (fields : List Field) (i k : ℕ) → i < length (path_order fields) → k < length (path_order fields)
    → get_or (path_order fields) i 0 ≡ get_or (path_order fields) k 0 → i ≡ k
distinct-at fields i k i_below k_below same = sym (place-own (bare fields) i i_below) ∙ ap (λ f. path_place fields f) same ∙ place-own (bare fields) k k_below

-- ---- one letter more

-- the set has just those of the first fields, so many, that the path changes
abbrev pub IsReadTo : List Field → List Bool → ℕ → ℕ → Type 0
IsReadTo fields path i set = (k : ℕ) → k < length (path_order fields) → has_number set (get_or (path_order fields) k 0) ≡ (nat_lt k i && get_or path k false)

not-below : (k i : ℕ) → i ≤ k → nat_lt k i ≡ false
not-below k i past = by (nat_lt k i) refl
  where
    by : (b : Bool) → nat_lt k i ≡ b → b ≡ false
    by true e = let less = (Decides-ltb k i).0 e in absurd (omega (arith, less, past))
    by false e = refl

below-next : (k i : ℕ) → k ≢ i → nat_lt k i ≡ nat_lt k (i + 1)
below-next k i other = by (nat_lt k i) refl
  where
    by : (b : Bool) → nat_lt k i ≡ b → b ≡ nat_lt k (i + 1)
    by true e = let less = (Decides-ltb k i).0 e in sym ((Decides-ltb k (i + 1)).1 (omega (arith, less)))
    by false e = at (nat_lt k (i + 1)) refl
      where
        at : (c : Bool) → nat_lt k (i + 1) ≡ c → false ≡ c
        at true h = let less = (Decides-ltb k (i + 1)).0 h in cc (sym e ∙ (Decides-ltb k i).1 (grind (arith, less, other)))
        at false h = refl

pub read-none : (fields : List Field) (path : List Bool) (set : ℕ) → ((f : ℕ) → has_number set f ≡ false) → IsReadTo fields path 0 set
read-none fields path set none k below = none (get_or (path_order fields) k 0) ∙ sym (ap (λ b. b && get_or path k false) (not-below k 0 (omega arith)))

module _ (fields : List Field) (path : List Bool) (set i : ℕ) (here : i < length (path_order fields)) (before : IsReadTo fields path i set) where
  abbrev at : ℕ → ℕ
  at k = get_or (path_order fields) k 0

  pub read-changed : (f next : ℕ) → f ≡ get_or (path_order fields) i 0 → get_or path i false ≡ true → next ≡ with_number set f
      → IsReadTo fields path (i + 1) next
  read-changed f next f_is letter next_is k below = ap (λ s. has_number s (at k)) next_is ∙ has-with set f (at k) ∙ by (f == at k) refl
    where
      by : (b : Bool) → (f == at k) ≡ b → (b || has_number set (at k)) ≡ (nat_lt k (i + 1) && get_or path k false)
      by true e =
          let same = distinct-at fields i k here below (sym f_is ∙ (Decides-eqb f (at k)).0 e) in
          sym (ap (λ b. b && get_or path k false) ((Decides-ltb k (i + 1)).1 (omega (arith, same))) ∙ ap (λ n. get_or path n false) (sym same) ∙ letter)
      by false e =
          before k below ∙ ap (λ b. b && get_or path k false) (below-next k i (λ same. cc (sym e ∙ (Decides-eqb f (at k)).1 (f_is ∙ ap at (sym same)))))

  pub read-kept : get_or path i false ≡ false → IsReadTo fields path (i + 1) set
  read-kept letter k below = before k below ∙ by (k == i) refl
    where
      none : (a b c : Bool) → c ≡ false → (a && c) ≡ (b && c)
      none true true c e = refl
      none true false c e = e
      none false true c e = sym e
      none false false c e = refl

      by : (b : Bool) → (k == i) ≡ b → (nat_lt k i && get_or path k false) ≡ (nat_lt k (i + 1) && get_or path k false)
      by true e = none (nat_lt k i) (nat_lt k (i + 1)) (get_or path k false) (ap (λ n. get_or path n false) ((Decides-eqb k i).0 e) ∙ letter)
      by false e = ap (λ b. b && get_or path k false) (below-next k i (λ same. cc (sym e ∙ (Decides-eqb k i).1 same)))

-- at the end it is the set that the path changes
pub read-all : (fields : List Field) (path : List Bool) (set i : ℕ) → length path ≡ length fields → length fields ≤ i → IsReadTo fields path i set
    → path_of fields set ≡ path
read-all fields path set i whole past read =
    same_lists (path_of fields set) path (length-map (path_order fields) (has_number set) ∙ order-length fields ∙ sym whole)
    (λ k d below. letter k d (omega (arith, below, length-map (path_order fields) (has_number set))))
  where
    letter : (k : ℕ) (d : Bool) → k < length (path_order fields) → get_or (path_of fields set) k d ≡ get_or path k d
    letter k d below =
        get_or-map (has_number set) (path_order fields) k 0 d below ∙ read k below
        ∙ ap (λ b. b && get_or path k false) ((Decides-ltb k i).1 (omega (arith, below, past, order-length fields)))
        ∙ get_or_default path k false d (omega (arith, below, whole, order-length fields))
