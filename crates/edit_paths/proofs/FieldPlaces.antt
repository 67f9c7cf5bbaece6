use Rattle.std.proofs.Common.{◌≡◌, ◌++◌, inl, inr, ℕ, zero, suc, ◌<◌, ◌||◌, not, Bool, true, false, if◌then◌else◌, List, [], ◌∷◌, length, append_assoc}
use Rattle.std.proofs.Common.{length-append, slice_index_or, refl, sym, ap, ◌∙◌, subst, arith}
use Rattle.std.proofs.lemmas.Bool.Decides.{Decides-eqb}
use Rattle.edit_model.specs.Corrections as corrections
use Rattle.edit_model.specs.Corrections.{is_numerical, path_order}
use Rattle.edit_model.specs.declared.field.Field.{Field}
use Rattle.edit_model.proofs.OrderLaws.{field-below, order-length}
use Rattle.edit_line.specs.CodeFields.{place_of}
use Rattle.edit_line.specs.Reductions.{IsIn}
use Rattle.edit_line.specs.Shapes.{code_fields, has_field, number_fields, place_in, shape_of}
use Rattle.edit_line.proofs.FieldLists.{has-append, there-has}
use Rattle.edit_line.proofs.Members.{in-right}
use Rattle.bound_cert.specs.Paths.{path_place}
use Rattle.bound_cert.proofs.Letters.{AreDistinct, order-distinct, other-field}
use Rattle.edit_paths.specs.Cases.{SearchCase}
use Rattle.edit_paths.specs.Paths.{field_count, number_count}
use Rattle.edit_paths.proofs.LetterLaws.{order-shape}

-- The places of the fields in path order: each field has its own, and each place is a field's.

pub index-in : (fields : List ℕ) (k : ℕ) → k < length fields → IsIn (slice_index_or fields k 0) fields
index-in [] k below = absurd (omega arith)
index-in (f ∷ fields) zero below = inl refl
index-in (f ∷ fields) (suc k) below = inr (index-in fields k (omega arith))

-- the place of the field that stands at a place
pub place-own : (fields : List ℕ) (k : ℕ) → AreDistinct fields → k < length fields → place_in fields (slice_index_or fields k 0) ≡ k
place-own [] k apart below = absurd (omega arith)
place-own (f ∷ fields) zero apart below = ap (λ b. if b then 0 else suc (place_in fields f)) ((Decides-eqb f f).1 refl)
place-own (f ∷ fields) (suc k) apart below =
    ap (λ b. if b then 0 else suc (place_in fields (slice_index_or fields k 0))) (other-field f (slice_index_or fields k 0) fields apart.0
    (index-in fields k (omega arith))) ∙ ap suc (place-own fields k apart.1 (omega arith))

-- the place of the first field behind others
place-behind : (first fields : List ℕ) (f : ℕ) → AreDistinct (first ++ f ∷ fields) → place_in (first ++ f ∷ fields) f ≡ length first
place-behind [] fields f apart = ap (λ b. if b then 0 else suc (place_in fields f)) ((Decides-eqb f f).1 refl)
place-behind (g ∷ first) fields f apart =
    ap (λ b. if b then 0 else suc (place_in (first ++ f ∷ fields) f)) (other-field g f (first ++ f ∷ fields) apart.0 (in-right f first (f ∷ fields) (inl refl)))
    ∙ ap suc (place-behind first fields f apart.1)

distinct-right : (first second : List ℕ) → AreDistinct (first ++ second) → AreDistinct second
distinct-right [] second apart = apart
distinct-right (f ∷ first) second apart = distinct-right first second apart.1

-- a field in path order is one of the fields
pub order-within : (fields : List Field) (f : ℕ) → has_field (path_order fields) f ≡ true → f < length fields
order-within fields f there =
    by (has_field (corrections.number_fields fields) f) refl (sym (has-append f (corrections.number_fields fields) (corrections.code_fields fields)) ∙ there)
  where
    by : (b : Bool) → has_field (corrections.number_fields fields) f ≡ b → (b || has_field (corrections.code_fields fields) f) ≡ true → f < length fields
    by true e h = field-below is_numerical fields f e
    by false e h = field-below (λ k. not (is_numerical k)) fields f h

-- each place in path order is a field's
pub place-of : (c : SearchCase) (k : ℕ) → k < field_count c → (f : ℕ) × (has_field (path_order c.survey.fields) f ≡ true) × (path_place c.survey.fields f ≡ k)
place-of c k below =
    let within : k < length (path_order c.survey.fields) = omega (arith, below, order-length c.survey.fields) in (
      slice_index_or (path_order c.survey.fields) k 0,
      there-has (slice_index_or (path_order c.survey.fields) k 0) (path_order c.survey.fields) (index-in (path_order c.survey.fields) k within),
      place-own (path_order c.survey.fields) k (order-distinct c.survey.fields) within,
    )

module _ (c : SearchCase) where
  abbrev numbers : List ℕ
  numbers = number_fields (shape_of c.survey.fields)

  abbrev codes : List ℕ
  codes = code_fields (shape_of c.survey.fields)

  kinds-distinct : AreDistinct (numbers ++ codes)
  kinds-distinct = subst (λ (fs : List ℕ). AreDistinct fs) (order-shape c.survey.fields) (order-distinct c.survey.fields)

  -- each place among the categorical fields is a field's
  pub code-place : (k : ℕ) → k < length (code_fields (shape_of c.survey.fields)) → (f : ℕ) × IsIn f (code_fields (shape_of c.survey.fields))
      × (k ≡ place_of (shape_of c.survey.fields) f)
  code-place k below = (slice_index_or codes k 0, index-in codes k below, sym (place-own codes k (distinct-right numbers codes kinds-distinct) below))

  -- the fields stand in path order, from place k on
  abbrev pub Placed : ℕ → List ℕ → Type 0
  Placed k [] = Unit {0}
  Placed k (f ∷ fields) = (path_place c.survey.fields f ≡ k) × Placed (suc k) fields

  placed-from : (first fields : List ℕ) → path_order c.survey.fields ≡ first ++ fields → Placed (length first) fields
  placed-from first [] is = tt
  placed-from first (f ∷ fields) is = (
    ap (λ (fs : List ℕ). place_in fs f) is ∙ place-behind first fields f (subst (λ (fs : List ℕ). AreDistinct fs) is (order-distinct c.survey.fields)),
    subst (λ n. Placed n fields) (length-append first (f ∷ []) ∙ omega arith)
        (placed-from (first ++ f ∷ []) fields (is ∙ sym (append_assoc first (f ∷ []) fields))),
  )

  pub fields-placed : Placed 0 (path_order c.survey.fields)
  fields-placed = placed-from [] (path_order c.survey.fields) refl

  pub codes-placed : Placed (number_count c) (code_fields (shape_of c.survey.fields))
  codes-placed = placed-from numbers codes (order-shape c.survey.fields)

  pub numbers-placed : Placed 0 (number_fields (shape_of c.survey.fields))
  numbers-placed = part 0 numbers codes (subst (λ (fs : List ℕ). Placed 0 fs) (order-shape c.survey.fields) fields-placed)
    where
      part : (k : ℕ) (first second : List ℕ) → Placed k (first ++ second) → Placed k first
      part k [] second h = tt
      part k (f ∷ first) second h = (h.0, part (suc k) first second h.1)
