use Rattle.std.proofs.Common.{◌≡◌, ◌≢◌, ℕ, zero, suc, ◌<◌, List, [], ◌∷◌, length, get_or, slice_get, IsSomeAnd, refl, arith}
use Rattle.edit_model.specs.Rows.{IsOfKind, IsRow, value_of}
use Rattle.edit_model.specs.Surveys.{IsSetOf, IsNumber, IsRule, IsTest}
use Rattle.edit_model.specs.Trials.{AgreesOnTest, AgreesOnRule, CanTry, HasValues, IsCodeValue, IsNumberValue}
use Rattle.edit_model.specs.declared.field.Field.{Field}
use Rattle.edit_model.specs.declared.field.Kind.{Kind}
use Rattle.edit_model.specs.declared.field.Kind.TheVariants as kind
use Rattle.edit_model.specs.declared.rule.Rule.{Rule}
use Rattle.edit_model.specs.declared.rule.Test.{Test}
use Rattle.edit_model.specs.declared.rule.Test.TheVariants as test
use Rattle.edit_model.specs.declared.value.Value.{Value}
use Rattle.edit_model.specs.declared.value.Value.TheVariants.{Code, Number, Bad}
use Rattle.edit_model.proofs.RowPointLaws.{point_of, point_of-agrees}

-- What a caller of `holds` shows: the rules of a survey can be tried at its records without Bad fields, and the point that such a record is agrees with it.

-- a record's value at a field of its survey
at_field : (fields : List Field) (row : List Value) (i : ℕ) (P : Field → Type 0) → IsRow fields row → IsSomeAnd (slice_get fields i) P → (f : Field) × P f
    × (i < length row) × IsOfKind f.kind (value_of row i)
at_field [] row i P is has = absurd has
at_field (f ∷ fields) [] i P is has = absurd is
at_field (f ∷ fields) (v ∷ row) zero P is has = (f, has, omega arith, is.0)
at_field (f ∷ fields) (v ∷ row) (suc i) P is has =
    let (g, holds, within, of_kind) = at_field fields row i P is.1 has in (g, holds, omega arith, of_kind)

number_there : (k : Kind) (v : Value) → IsNumber k → IsOfKind k v → v ≢ Bad → IsNumberValue v
number_there (kind.Number scale) (Number x) is of_kind held = tt
number_there (kind.Number scale) (Code c) is of_kind held = absurd of_kind
number_there k Bad is of_kind held = absurd (held refl)
number_there (kind.Code codes) v is of_kind held = absurd is

code_there : (k : Kind) (set : ℕ) (v : Value) → IsSetOf k set → IsOfKind k v → v ≢ Bad → IsCodeValue v
code_there (kind.Code codes) set (Code c) has of_kind held = tt
code_there (kind.Code codes) set (Number x) has of_kind held = absurd of_kind
code_there k set Bad has of_kind held = absurd (held refl)
code_there (kind.Number scale) set v has of_kind held = absurd has

module _ (fields : List Field) (row : List Value) (is : IsRow fields row) (held : (f : ℕ) → f < length row → value_of row f ≢ Bad) where
  -- a test that fits the survey's fields
  has_values : (t : Test) → IsTest fields t → HasValues row t
  has_values (test.Number linear) fits = λ k d below.
      let term = get_or linear.terms k d in
      let (f, number, within, of_kind) = at_field fields row term.field (λ (f : Field). IsNumber f.kind) is (fits.1 k d below).numerical in
      (within, number_there f.kind (value_of row term.field) number of_kind (held term.field within))
  has_values (test.Codes field negated set) fits =
      let (f, has, within, of_kind) = at_field fields row field (λ (f : Field). IsSetOf f.kind set) is fits in
      (within, code_there f.kind set (value_of row field) has of_kind (held field within))

  -- a rule of the survey
  pub can_try : (rule : Rule) → IsRule fields rule → CanTry row rule
  can_try rule fits = record {
    conditions = λ k d below. has_values (get_or rule.conditions k d) (fits.conditions k d below);
    conclusion = has_values rule.conclusion fits.conclusion;
  }

-- a value that a test needs is not Bad
number_held : (v : Value) → IsNumberValue v → v ≢ Bad
number_held v is bad = by v is bad
  where
    by : (v : Value) → IsNumberValue v → v ≡ Bad → ⊥
    by (Number x) is bad = cc
    by (Code c) is bad = is
    by Bad is bad = is

code_held : (v : Value) → IsCodeValue v → v ≢ Bad
code_held v is bad = by v is bad
  where
    by : (v : Value) → IsCodeValue v → v ≡ Bad → ⊥
    by (Code c) is bad = cc
    by (Number x) is bad = is
    by Bad is bad = is

agrees_on : (row : List Value) (t : Test) → HasValues row t → AgreesOnTest row (point_of row) t
agrees_on row (test.Number linear) has = λ k d below. point_of-agrees row _ (number_held _ (has k d below).1)
agrees_on row (test.Codes field negated set) has = point_of-agrees row field (code_held _ has.1)

-- the point that a record is agrees with it at a rule that can be tried
pub point_of-agrees_with : (row : List Value) (rule : Rule) → CanTry row rule → AgreesOnRule row (point_of row) rule
point_of-agrees_with row rule can = record {
  conditions = λ k d below. agrees_on row (get_or rule.conditions k d) (can.conditions k d below);
  conclusion = agrees_on row rule.conclusion can.conclusion;
}
