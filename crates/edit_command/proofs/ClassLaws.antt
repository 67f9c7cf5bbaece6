-- The class field of a survey whose fields have names of their own.
use Rattle.std.proofs.Common.{◌≡◌, ◌≢◌, ◌∙◌, ◌<◌, ℕ, true, false, AllPairs, List, Option, None, Some, IfSome, IsSomeAnd}
use Rattle.std.proofs.Common.{ap, arith, get_or, inl, inr, length, refl, slice_get, subst, sym}
use Rattle.std.proofs.lemmas.Bool.{cases_lt}
use Rattle.std.proofs.lemmas.Option.{get_or_from_slice_get, slice_get_read, slice_get_within}
use Rattle.edit_model.specs.Corrections.{is_numerical}
use Rattle.edit_model.specs.declared.field.Field.{Field}
use Rattle.edit_model.proofs.RowLaws.{field-within}
use Rattle.edit_command.specs.ClassFields.{HasClass, IsCategorical, IsClassAsked, IsClassField}

module _ (fields : List Field) (name : List ℕ) where
  -- the field of this number has the name
  abbrev IsNamed : ℕ → Type 0
  IsNamed number = IsSomeAnd (slice_get fields number) (λ (f : Field). f.name ≡ name)

  -- a class field has it
  class_named : (number : ℕ) (found : Option Field) → IsSomeAnd found (IsCategorical name) → IsSomeAnd found (λ (f : Field). f.name ≡ name)
  class_named number None is = is
  class_named number (Some field) is = is.named

  -- the field of this number, where it has the name
  there : (number : ℕ) (field : Field) → field ≡ get_or fields number field → IsNamed number → slice_get fields number ≡ Some field
  there number field at named =
      slice_get_read fields (length fields) number field refl (field-within fields number (λ (f : Field). f.name ≡ name) named) at

  -- a field that has the name, and is categorical
  pub named_class : (number : ℕ) (field : Field) → field ≡ get_or fields number field → IsNamed number → is_numerical field.kind ≡ false
      → IsClassField fields name number
  named_class number field at named categorical =
      let here = there number field at named in
      let is : field.name ≡ name = subst (λ (o : Option Field). IsSomeAnd o (λ (f : Field). f.name ≡ name)) here named in
      subst (λ (o : Option Field). IsSomeAnd o (IsCategorical name)) (sym here) (record { named = is; categorical = categorical })

  module _ (distinct : AllPairs (λ (f : Field) (g : Field). f.name ≢ g.name) fields) where
    -- no field has the name of a later one
    no_later : (a b : ℕ) (f g : Field) → slice_get fields a ≡ Some f → slice_get fields b ≡ Some g → f.name ≡ name → g.name ≡ name → a < b → ⊥
    no_later a b f g at here named also before =
        distinct a b f before (slice_get_within fields b g here)
        (ap (λ (h : Field). h.name) (get_or_from_slice_get fields a f f at) ∙ named ∙ sym also
        ∙ sym (ap (λ (h : Field). h.name) (get_or_from_slice_get fields b g f here)))

    -- one field has the name
    one_named : (a b : ℕ) (found other : Option Field) → slice_get fields a ≡ found → slice_get fields b ≡ other
        → IsSomeAnd found (λ (f : Field). f.name ≡ name) → IsSomeAnd other (λ (f : Field). f.name ≡ name) → a ≡ b
    one_named a b None other at here named also = absurd named
    one_named a b (Some f) None at here named also = absurd also
    one_named a b (Some f) (Some g) at here named also = elim (cases_lt a b) [
      | inl before ↦ absurd (no_later a b f g at here named also before)
      | inr not ↦ elim (cases_lt b a) [
        | inl behind ↦ absurd (no_later b a g f here at also named behind)
        | inr neither ↦ omega (arith, not, neither)
      ]
    ]

    -- there is one class field
    pub one_class : (a b : ℕ) → IsClassField fields name a → IsClassField fields name b → a ≡ b
    one_class a b is also =
        one_named a b (slice_get fields a) (slice_get fields b) refl refl (class_named a (slice_get fields a) is) (class_named b (slice_get fields b) also)

    -- where the field that has the name is numerical, no categorical field has it
    pub numerical_lacks : (number : ℕ) (field : Field) → field ≡ get_or fields number field → IsNamed number → is_numerical field.kind ≡ true
        → HasClass fields name → ⊥
    numerical_lacks number field at named numerical (other, is) =
        let same = one_named number other (slice_get fields number) (slice_get fields other) refl refl named
        (class_named other (slice_get fields other) is) in
        let here : slice_get fields other ≡ Some field = ap (λ (n : ℕ). slice_get fields n) (sym same) ∙ there number field at named in
        let also : IsCategorical name field = subst (λ (o : Option Field). IsSomeAnd o (IsCategorical name)) here is in
        absurd (cc (sym numerical ∙ also.categorical))

-- there is one class field, or none is asked for
pub one_asked : (fields : List Field) → AllPairs (λ (f : Field) (g : Field). f.name ≢ g.name) fields
    → (class : Option (List ℕ)) (a b : Option ℕ) → IsClassAsked fields class a → IsClassAsked fields class b → a ≡ b
one_asked fields distinct None a b is also = is ∙ sym also
one_asked fields distinct (Some name) (Some a) (Some b) is also = ap (λ (n : ℕ). Some n) (one_class fields name distinct a b is also)
one_asked fields distinct (Some name) None b is also = absurd is
one_asked fields distinct (Some name) (Some a) None is also = absurd also

-- a class field is one of the fields
pub class_within : (fields : List Field) (class : Option (List ℕ)) (class_field : Option ℕ) → IsClassAsked fields class class_field
    → IfSome class_field (λ number. number < length fields)
class_within fields None class_field is = subst (λ (o : Option ℕ). IfSome o (λ number. number < length fields)) (sym is) tt
class_within fields (Some name) None is = absurd is
class_within fields (Some name) (Some number) is = field-within fields number (IsCategorical name) is
