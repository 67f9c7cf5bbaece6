use Rattle.std.proofs.Common.{◌≡◌, ℕ, zero, suc, ◌<◌, Bool, true, false, List, [], ◌∷◌, Some, Option, IfSome, IsSomeAnd, get_or, length, slice_get, refl, sym}
use Rattle.std.proofs.Common.{subst, arith}
use Rattle.std.proofs.lemmas.Option.{IfSome_then}
use Rattle.edit_model.specs.Rows.{value_of}
use Rattle.edit_model.specs.declared.field.Field.{Field}
use Rattle.edit_model.specs.declared.value.Value.{Value}
use Rattle.bound_cert.specs.Paths.{changes}
use Rattle.record_text.specs.Sheets.{text_at}
use Rattle.cert_check.specs.Released.{IsGivenText, IsValueOf, is_same}
use Rattle.cert_check.specs.declared.checking.Checking.{Checking}
use Rattle.cert_check.specs.inner.Checks.{IsValueAt}

-- The value of one field.

-- what holds of the field at a place, and the other way round
field-at : (P : Field → Type 0) (fields : List Field) (i : ℕ) (d : Field) → i < length fields → P (get_or fields i d) → IsSomeAnd (slice_get fields i) P
field-at P [] i d below holds = absurd (omega arith)
field-at P (field ∷ fields) zero d below holds = holds
field-at P (field ∷ fields) (suc i) d below holds = field-at P fields i d (omega arith) holds

at-field : (P : Field → Type 0) (fields : List Field) (i : ℕ) (d : Field) → i < length fields → IsSomeAnd (slice_get fields i) P → P (get_or fields i d)
at-field P [] i d below holds = absurd holds
at-field P (field ∷ fields) zero d below holds = holds
at-field P (field ∷ fields) (suc i) d below holds = at-field P fields i d (omega arith) holds

module _ (c : Checking) (row : List Value) (path : List Bool) (texts : List (List ℕ)) (f : ℕ) (d : Field) (below : f < length c.survey.now.fields) where
  abbrev field : Field
  field = get_or c.survey.now.fields f d

  abbrev text : List ℕ
  text = text_at c.columns.now texts f

  abbrev IsValue : Bool → Value → Type 0
  IsValue changed v = IsValueOf changed field.kind text (value_of row f) v

  there : (b : Bool) (v : Value) → changes c.survey.now.fields path f ≡ b → IsValue b v → IsValueAt c row path texts f v
  there b v changed value =
      field-at (λ (g : Field). IsValueOf (changes c.survey.now.fields path f) g.kind text (value_of row f) v) c.survey.now.fields f d below
      (subst (λ (e : Bool). IsValue e v) (sym changed) value)

  here : (b : Bool) (v : Value) → changes c.survey.now.fields path f ≡ b → IsValueAt c row path texts f v → IsValue b v
  here b v changed value = subst (λ (e : Bool). IsValue e v) changed
      (at-field (λ (g : Field). IsValueOf (changes c.survey.now.fields path f) g.kind text (value_of row f) v) c.survey.now.fields f d below value)

  module _ (kept : changes c.survey.now.fields path f ≡ false) where
    pub kept-value : IsValueAt c row path texts f (value_of row f)
    kept-value = there false (value_of row f) kept refl

  module _ (changed : changes c.survey.now.fields path f ≡ true) (o : Option Value) where
    pub other-value : IfSome o (λ v. IsGivenText field.kind text v × (is_same v (value_of row f) ≡ false)) → IfSome o (λ v. IsValueAt c row path texts f v)
    other-value given = IfSome_then o given (λ v is. there true v changed is)

    pub other-only : ((v : Value) → IsGivenText field.kind text v → is_same v (value_of row f) ≡ false → o ≡ Some v) → (v : Value)
        → IsValueAt c row path texts f v → o ≡ Some v
    other-only only v value = let (given, other) = here true v changed value in only v given other
