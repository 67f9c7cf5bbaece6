use Rattle.std.proofs.Common.{◌≡◌, ◌||◌, ◌==◌, ◌++◌, ◌⊎◌, inl, inr, ℕ, zero, suc, ◌+◌, ◌<◌, ◌≤◌, Bool, true, false, not, if◌then◌else◌, List, [], ◌∷◌, length}
use Rattle.std.proofs.Common.{length-append, slice_index_or, take, refl, sym, ap, ◌∙◌, subst, arith}
use Rattle.std.proofs.Math.Seq.{get_or-append_seam}
use Rattle.edit_model.specs.Corrections.{path_order}
use Rattle.edit_model.specs.Corrections as corrections
use Rattle.edit_model.specs.declared.field.Field.{Field}
use Rattle.edit_model.proofs.OrderLaws.{order-length}
use Rattle.edit_line.specs.Shapes.{code_fields, has_field, number_fields, place_in, shape_of}
use Rattle.edit_line.proofs.BoolLaws.{or_true}
use Rattle.edit_line.proofs.FieldLists.{has-append, has-left, has-right}
use Rattle.edit_line.proofs.ShapeLaws.{code_fields-same, number_fields-same, place-within}
use Rattle.bound_cert.specs.Paths.{changes, keeps, path_place}
use Rattle.edit_paths.specs.Cases.{SearchCase}
use Rattle.edit_paths.specs.Paths.{field_count, number_count, treats}

-- The letters of a path.

-- ---- the fields in path order

-- the numerical fields of the shape, and then its categorical ones
pub order-shape : (fields : List Field) → path_order fields ≡ number_fields (shape_of fields) ++ code_fields (shape_of fields)
order-shape fields = ap (λ (fs : List ℕ). fs ++ corrections.code_fields fields) (sym (number_fields-same fields))
    ∙ ap (λ (fs : List ℕ). number_fields (shape_of fields) ++ fs) (sym (code_fields-same fields))

place-left : (i : ℕ) (first second : List ℕ) → has_field first i ≡ true → place_in (first ++ second) i < length first
place-left i [] second h = absurd (cc)
place-left i (j ∷ first) second h = by (j == i) (place-left i first second) h
  where
    by : (b : Bool) → (has_field first i ≡ true → place_in (first ++ second) i < length first) → (b || has_field first i) ≡ true
        → (if b then 0 else suc (place_in (first ++ second) i)) < suc (length first)
    by true rest h = omega arith
    by false rest h = let below = rest h in omega arith

module _ (c : SearchCase) where
  abbrev numbers : List ℕ
  numbers = number_fields (shape_of c.survey.fields)

  abbrev codes : List ℕ
  codes = code_fields (shape_of c.survey.fields)

  pub number-field : (f : ℕ) → has_field (number_fields (shape_of c.survey.fields)) f ≡ true → has_field (path_order c.survey.fields) f ≡ true
  number-field f h = ap (λ (fs : List ℕ). has_field fs f) (order-shape c.survey.fields) ∙ has-left f numbers codes h

  pub code-field : (f : ℕ) → has_field (code_fields (shape_of c.survey.fields)) f ≡ true → has_field (path_order c.survey.fields) f ≡ true
  code-field f h = ap (λ (fs : List ℕ). has_field fs f) (order-shape c.survey.fields) ∙ has-right f numbers codes h

  pub either-field : (f : ℕ) → has_field (path_order c.survey.fields) f ≡ true → (has_field (number_fields (shape_of c.survey.fields)) f ≡ true)
      ⊎ (has_field (code_fields (shape_of c.survey.fields)) f ≡ true)
  either-field f h = by (has_field numbers f) refl (sym (ap (λ (fs : List ℕ). has_field fs f) (order-shape c.survey.fields) ∙ has-append f numbers codes) ∙ h)
    where
      by : (b : Bool) → has_field (number_fields (shape_of c.survey.fields)) f ≡ b → (b || has_field (code_fields (shape_of c.survey.fields)) f) ≡ true
          → (has_field (number_fields (shape_of c.survey.fields)) f ≡ true) ⊎ (has_field (code_fields (shape_of c.survey.fields)) f ≡ true)
      by true is some = inl is
      by false is some = inr some

  -- a numerical field stands among the first
  pub number-place : (f : ℕ) → has_field (number_fields (shape_of c.survey.fields)) f ≡ true → path_place c.survey.fields f < number_count c
  number-place f h = subst (λ (fs : List ℕ). place_in fs f < number_count c) (sym (order-shape c.survey.fields)) (place-left f numbers codes h)

  -- how many fields there are, of each kind
  pub count-kinds : length (number_fields (shape_of c.survey.fields)) + length (code_fields (shape_of c.survey.fields)) ≡ field_count c
  count-kinds = sym (length-append numbers codes) ∙ sym (ap (λ (fs : List ℕ). length fs) (order-shape c.survey.fields)) ∙ order-length c.survey.fields

-- ---- letters

letter-one : (path : List Bool) (i : ℕ) → not (slice_index_or path i true) ≡ true → slice_index_or path i false ≡ false
letter-one [] i h = refl
letter-one (true ∷ path) zero h = absurd (cc)
letter-one (false ∷ path) zero h = refl
letter-one (a ∷ path) (suc i) h = letter-one path i h

pub letter-there : (path : List Bool) (i : ℕ) → i < length path → slice_index_or path i true ≡ slice_index_or path i false
letter-there [] i below = absurd (omega arith)
letter-there (a ∷ path) zero below = refl
letter-there (a ∷ path) (suc i) below = letter-there path i (omega arith)

-- the letter of a path with one letter more
pub longer : (path : List Bool) (b : Bool) → length (path ++ b ∷ []) ≡ suc (length path)
longer path b = length-append path (b ∷ []) ∙ omega arith

pub letter-here : (path : List Bool) (b d : Bool) (i : ℕ) → i ≡ length path → slice_index_or (path ++ b ∷ []) i d ≡ b
letter-here path b d i same = ap (λ n. slice_index_or (path ++ b ∷ []) n d) same ∙ get_or-append_seam path b [] d

-- a field that the first letters keep is kept
pub taken-kept : (w : List Bool) (k i : ℕ) → not (slice_index_or (take k w) i true) ≡ true → not (slice_index_or w i true) ≡ true
taken-kept [] zero i h = absurd (cc)
taken-kept [] (suc k) i h = absurd (cc)
taken-kept (x ∷ w) zero i h = absurd (cc)
taken-kept (x ∷ w) (suc k) zero h = h
taken-kept (x ∷ w) (suc k) (suc i) h = taken-kept w k i h

-- ---- what a path says of a field

module _ (c : SearchCase) (path : List Bool) where
  pub kept-not_changed : (f : ℕ) → keeps c.survey.fields path f ≡ true → changes c.survey.fields path f ≡ false
  kept-not_changed f kept = letter-one path (path_place c.survey.fields f) kept

  pub treated-kept : (f : ℕ) → treats c path f ≡ true → changes c.survey.fields path f ≡ false → keeps c.survey.fields path f ≡ true
  treated-kept f treated unchanged = by (keeps c.survey.fields path f) (changes c.survey.fields path f) treated unchanged
    where
      by : (k ch : Bool) → (k || ch) ≡ true → ch ≡ false → k ≡ true
      by true ch h e = refl
      by false ch h e = absurd (cc (sym h ∙ e))

  -- a field within the path is kept where it is not changed
  pub within-kept : (f : ℕ) → path_place c.survey.fields f < length path → changes c.survey.fields path f ≡ false → keeps c.survey.fields path f ≡ true
  within-kept f below unchanged = ap not (letter-there path (path_place c.survey.fields f) below ∙ unchanged)

  -- a path that treats all fields treats each
  pub all-treated : length path ≡ field_count c → (f : ℕ) → has_field (path_order c.survey.fields) f ≡ true → changes c.survey.fields path f ≡ false
      → keeps c.survey.fields path f ≡ true
  all-treated complete f there unchanged =
      within-kept f (omega (arith, complete, order-length c.survey.fields, place-within (path_order c.survey.fields) f there)) unchanged

  -- and one that treats all numerical fields those
  pub numbers-treated : number_count c ≤ length path → (f : ℕ) → has_field (number_fields (shape_of c.survey.fields)) f ≡ true → changes c.survey.fields path f
      ≡ false → keeps c.survey.fields path f ≡ true
  numbers-treated enough f there unchanged = within-kept f (omega (arith, enough, number-place c f there)) unchanged

  pub complete-treats : length path ≡ field_count c → (f : ℕ) → has_field (path_order c.survey.fields) f ≡ true → treats c path f ≡ true
  complete-treats complete f there = by (changes c.survey.fields path f) refl
    where
      by : (ch : Bool) → changes c.survey.fields path f ≡ ch → (keeps c.survey.fields path f || ch) ≡ true
      by true e = or_true (keeps c.survey.fields path f)
      by false e = ap (λ b. b || false) (all-treated complete f there e)
