use Rattle.std.specs.Prelude.{ℕ, ℤ, zero, suc, ◌<◌, ◌-◌, ◌^◌, ◌==◌, List, [], ◌∷◌, length, map, take, IsTrue, if◌then◌else◌}
pub use Rattle.edit_model.specs.FieldSets.{has_field}
use Rattle.edit_model.specs.Points.{Point}
use Rattle.edit_model.specs.declared.field.Field.{Field}
use Rattle.edit_model.specs.declared.field.Kind.{Kind}
use Rattle.edit_model.specs.declared.field.Kind.TheVariants as kind

-- what values a field takes: fractions, or the codes below a number
pub data Domain : Type 0 where
  Numerical : Domain
  Categorical : ℕ → Domain

-- the domain of a field with this number of codes, which is numerical where that is 0
abbrev pub domain_with : ℕ → Domain
domain_with zero = Numerical
domain_with (suc k) = Categorical (suc k)

-- the domains of the fields of a shape, from the count of the fields and the number of codes of each
abbrev pub domains_of : ℕ → List ℕ → List Domain
domains_of count codes = map domain_with (take count codes)

-- the domain of a kind of field
abbrev pub domain_of : Kind → Domain
domain_of (kind.Number scale) = Numerical
domain_of (kind.Code codes) = Categorical (length codes)

-- a survey's shape: the domains of its fields, in declared order
abbrev pub shape_of : List Field → List Domain
shape_of fields = map (λ (field : Field). domain_of field.kind) fields

-- the numerical fields from number i on
abbrev pub numbers_from : ℕ → List Domain → List ℕ
numbers_from i [] = []
numbers_from i (Numerical ∷ shape) = i ∷ numbers_from (suc i) shape
numbers_from i (Categorical k ∷ shape) = numbers_from (suc i) shape

-- the categorical fields from number i on
abbrev pub codes_from : ℕ → List Domain → List ℕ
codes_from i [] = []
codes_from i (Numerical ∷ shape) = codes_from (suc i) shape
codes_from i (Categorical k ∷ shape) = i ∷ codes_from (suc i) shape

-- the numbers of the numerical fields, in declared order
abbrev pub number_fields : List Domain → List ℕ
number_fields shape = numbers_from 0 shape

-- the numbers of the categorical fields, in declared order
abbrev pub code_fields : List Domain → List ℕ
code_fields shape = codes_from 0 shape

-- the set of all codes of each categorical field, as bits
abbrev pub whole_sets : List Domain → List ℕ
whole_sets [] = []
whole_sets (Numerical ∷ shape) = whole_sets shape
whole_sets (Categorical k ∷ shape) = (2 ^ k - 1) ∷ whole_sets shape

-- the element beside the field, and the given one where the field is none of them
abbrev pub beside : {X : Type 0} → X → List ℕ → List X → ℕ → X
beside none (i ∷ fields) (x ∷ xs) f = if i == f then x else beside none fields xs f
beside none _ _ f = none

-- the place of the field in the list, past the end where it is not there
abbrev pub place_in : List ℕ → ℕ → ℕ
place_in [] f = 0
place_in (i ∷ fields) f = if i == f then 0 else suc (place_in fields f)

-- the point's numerators at the numerical fields
abbrev pub numerators_at : List Domain → Point → List ℤ
numerators_at shape p = map p.numerator (number_fields shape)

-- the point's codes at the categorical fields
abbrev pub codes_at : List Domain → Point → List ℕ
codes_at shape p = map p.code (code_fields shape)

-- the field is numerical
abbrev pub IsNumerical : List Domain → ℕ → Type 0
IsNumerical shape f = IsTrue (has_field (number_fields shape) f)

-- the point has a code of its domain at each categorical field, from number i on
abbrev pub HasCodes : ℕ → List Domain → Point → Type 0
HasCodes i [] p = Unit {0}
HasCodes i (Numerical ∷ shape) p = HasCodes (suc i) shape p
HasCodes i (Categorical k ∷ shape) p = (p.code i < k) × HasCodes (suc i) shape p
