use Rattle.std.proofs.Common.{◌≡◌, ◌≢◌, ℕ, zero, suc, ◌<◌, not, Bool, true, List, [], ◌∷◌, length, Option, Some, None, IsSomeAnd, slice_get, set, subst, refl}
use Rattle.std.proofs.Common.{arith}
use Rattle.edit_model.proofs.OrderLaws.{field-below, kind-there}
use Rattle.edit_model.specs.Corrections.{code_fields, is_numerical, number_fields, numbers_from}
use Rattle.edit_model.specs.FieldSets.{has_field}
use Rattle.edit_model.specs.Points.{IsInDomain}
use Rattle.edit_model.specs.Rows.{IsOfKind, IsRow, is_bad, value_of}
use Rattle.edit_model.specs.Trials.{IsCodeValue, IsNumberValue}
use Rattle.edit_model.specs.declared.field.Field.{Field}
use Rattle.edit_model.specs.declared.field.Kind.{Kind}
use Rattle.edit_model.specs.declared.field.Kind.TheVariants as kind
use Rattle.edit_model.specs.declared.value.Value.{Value}
use Rattle.edit_model.specs.declared.value.Value.TheVariants.{Bad, Code, Number}

-- A record has a value for each field, of the field's kind or Bad.

-- ---- values

-- a value is Bad exactly where it is told so
pub was-bad : (v : Value) → is_bad v ≡ true → v ≡ Bad
was-bad Bad is = refl
was-bad (Code c) is = absurd (cc)
was-bad (Number x) is = absurd (cc)

pub not-bad : (v : Value) → not (is_bad v) ≡ true → v ≢ Bad
not-bad Bad is = absurd (cc)
not-bad (Code c) is = λ same. absurd (cc)
not-bad (Number x) is = λ same. absurd (cc)

-- a value of a numerical kind is a number or Bad
number-held : (k : Kind) (v : Value) → is_numerical k ≡ true → IsOfKind k v → v ≢ Bad → IsNumberValue v
number-held (kind.Number scale) (Number x) numerical is held = tt
number-held (kind.Number scale) (Code c) numerical is held = absurd is
number-held (kind.Number scale) Bad numerical is held = absurd (held refl)
number-held (kind.Code codes) v numerical is held = absurd (cc)

-- and of a categorical one a code or Bad
code-held : (k : Kind) (v : Value) → not (is_numerical k) ≡ true → IsOfKind k v → v ≢ Bad → IsCodeValue v
code-held (kind.Code codes) (Code c) categorical is held = tt
code-held (kind.Code codes) (Number x) categorical is held = absurd is
code-held (kind.Code codes) Bad categorical is held = absurd (held refl)
code-held (kind.Number scale) v categorical is held = absurd (cc)

-- ---- records

-- a record is as long as the list of fields
pub row-length : (fields : List Field) (row : List Value) → IsRow fields row → length row ≡ length fields
row-length [] [] are = refl
row-length [] (v ∷ row) are = absurd are
row-length (field ∷ fields) [] are = absurd are
row-length (field ∷ fields) (v ∷ row) are = let rest = row-length fields row are.1 in omega arith

-- the value at a field is of the field's kind
pub value-held : (fields : List Field) (row : List Value) (f : ℕ) → IsRow fields row → f < length fields
    → IsSomeAnd (slice_get fields f) (λ (field : Field). IsOfKind field.kind (value_of row f))
value-held [] row f are below = absurd (omega arith)
value-held (field ∷ fields) [] f are below = absurd are
value-held (field ∷ fields) (v ∷ row) zero are below = are.0
value-held (field ∷ fields) (v ∷ row) (suc f) are below = value-held fields row f are.1 (omega arith)

module _ (fields : List Field) (row : List Value) (f : ℕ) (are : IsRow fields row) where
  -- a field of one kind, and the value there
  at_kind : (test : Kind → Bool) → has_field (numbers_from test 0 fields) f ≡ true → ((k : Kind) × (test k ≡ true) × IsOfKind k (value_of row f))
      × (f < length row)
  at_kind test there =
      let below = field-below test fields f there in (
        both (slice_get fields f) (kind-there test fields f there) (value-held fields row f are below),
        omega (arith, below, row-length fields row are),
      )
    where
      both : (o : Option Field) → IsSomeAnd o (λ (field : Field). test field.kind ≡ true) → IsSomeAnd o
          (λ (field : Field). IsOfKind field.kind (value_of row f)) → (k : Kind) × (test k ≡ true) × IsOfKind k (value_of row f)
      both None passes is = absurd passes
      both (Some field) passes is = (field.kind, passes, is)

  -- a numerical field holds a number or Bad
  pub number-at : has_field (number_fields fields) f ≡ true → (value_of row f ≢ Bad → IsNumberValue (value_of row f)) × (f < length row)
  number-at there = let (at, within) = at_kind is_numerical there in (number-held at.0 (value_of row f) at.1 at.2, within)

  -- a categorical one holds a code or Bad
  pub code-at : has_field (code_fields fields) f ≡ true → (value_of row f ≢ Bad → IsCodeValue (value_of row f)) × (f < length row)
  code-at there = let (at, within) = at_kind (λ k. not (is_numerical k)) there in (code-held at.0 (value_of row f) at.1 at.2, within)

  -- a code that a field holds is of its domain
  pub code-domain : (c : ℕ) → f < length fields → value_of row f ≡ Code c → IsSomeAnd (slice_get fields f) (λ (field : Field). IsInDomain field.kind c)
  code-domain c below is = held (slice_get fields f) (value-held fields row f are below)
    where
      own : (k : Kind) (v : Value) → v ≡ Code c → IsOfKind k v → IsInDomain k c
      own (kind.Number scale) v same fits = tt
      own (kind.Code codes) (Code d) same fits = let e : d ≡ c = cc in subst (λ (n : ℕ). n < length codes) e fits
      own (kind.Code codes) (Number x) same fits = absurd fits
      own (kind.Code codes) Bad same fits = absurd (cc)

      held : (o : Option Field) → IsSomeAnd o (λ (field : Field). IsOfKind field.kind (value_of row f))
          → IsSomeAnd o (λ (field : Field). IsInDomain field.kind c)
      held None fits = absurd fits
      held (Some field) fits = own field.kind (value_of row f) is fits

  -- a field of one kind has a value in the record
  pub number-within : has_field (number_fields fields) f ≡ true → f < length row
  number-within there = (number-at there).1

  pub code-within : has_field (code_fields fields) f ≡ true → f < length row
  code-within there = (code-at there).1

-- a field that a value may be put at is one of the fields
pub field-within : (fields : List Field) (f : ℕ) (P : Field → Type 0) → IsSomeAnd (slice_get fields f) P → f < length fields
field-within [] f P there = absurd there
field-within (field ∷ fields) zero P there = omega arith
field-within (field ∷ fields) (suc f) P there = let rest = field-within fields f P there in omega arith

-- with a value of a field's kind put there a record is a record
pub row-set : (fields : List Field) (row : List Value) (f : ℕ) (v : Value) → IsRow fields row
    → IsSomeAnd (slice_get fields f) (λ (field : Field). IsOfKind field.kind v) → IsRow fields (set row f v)
row-set [] row f v are fits = absurd fits
row-set (field ∷ fields) [] f v are fits = absurd are
row-set (field ∷ fields) (old ∷ row) zero v are fits = (fits, are.1)
row-set (field ∷ fields) (old ∷ row) (suc f) v are fits = (are.0, row-set fields row f v are.1 fits)
