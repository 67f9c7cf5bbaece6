-- The set of the last fields, one field after the other.
use Rattle.std.proofs.Common.{◌≡◌, ◌≢◌, ◌+◌, ◌<◌, ◌≤◌, inl, inr, ℕ, true, false, List, get_or, length, refl, sym, ◌∙◌, true≢false, arith}
use Rattle.std.proofs.lemmas.Bool.{cases_eq}
use Rattle.std.proofs.lemmas.Option.{slice_get_read}
use Rattle.edit_model.proofs.RowLaws.{field-within}
use Rattle.edit_model.specs.FieldSets.{has_number}
use Rattle.edit_model.specs.declared.field.Field.{Field}
use Rattle.panel_files.specs.LastFields.{AreLastFields, IsLastField}
use Rattle.panel_files.specs.inner.LastBelow.{AreLastBelow}

-- there is none among no fields
pub set-none : (fields : List Field) (set : ℕ) → ((f : ℕ) → has_number set f ≡ false) → AreLastBelow fields 0 set
set-none fields set none f = (λ told. absurd (true≢false (sym told ∙ none f)), λ there. absurd (omega (arith, there.0)))

module _ (fields : List Field) (n set : ℕ) (field : Field) (below : n < length fields) (here : field ≡ get_or fields n field)
    (before : AreLastBelow fields n set) where
  -- with the field at a place, which is one
  pub set-with-last : (next : ℕ) → IsLastField field → has_number next n ≡ true
      → ((f : ℕ) → f ≢ n → has_number next f ≡ has_number set f) → AreLastBelow fields (n + 1) next
  set-with-last next is has others f = elim (cases_eq f n) [
    | inl same ↦ (
      λ told. (omega (arith, same), rw (same, slice_get_read fields (length fields) n field refl below here) is),
      λ there. rw same has,
    )
    | inr apart ↦ (
      λ told. let there = (before f).0 (sym (others f apart) ∙ told) in (omega (arith, there.0), there.1),
      λ there. others f apart ∙ (before f).1 (omega (arith, there.0, apart), there.1),
    )
  ]

  -- with the field at a place, which is none
  pub set-without-it : ¬ IsLastField field → AreLastBelow fields (n + 1) set
  set-without-it differs f = (
    λ told. let there = (before f).0 told in (omega (arith, there.0), there.1),
    λ there. elim (cases_eq f n) [
      | inl same ↦ absurd (differs (rw (same, slice_get_read fields (length fields) n field refl below here) at there.1))
      | inr apart ↦ (before f).1 (omega (arith, there.0, apart), there.1)
    ],
  )

-- behind the last place these are all
pub set-of-all : (fields : List Field) (n set : ℕ) → length fields ≤ n → AreLastBelow fields n set → AreLastFields fields set
set-of-all fields n set past are f = (λ told. ((are f).0 told).1, λ is. (are f).1 (omega (arith, field-within fields f IsLastField is), is))
