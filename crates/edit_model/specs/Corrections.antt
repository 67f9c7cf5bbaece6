use Rattle.std.specs.Prelude.{◌≡◌, ℕ, suc, ◌+◌, ◌≤◌, ◌==◌, ◌++◌, not, Bool, true, false, List, [], ◌∷◌, map, IsTrue, if◌then◌else◌, ◌*ℤ◌}
use Rattle.std.specs.Ordering.{int_eq}
use Rattle.edit_model.specs.Parts.{SurveyParts}
use Rattle.edit_model.specs.Points.{Point, IsConsistent}
use Rattle.edit_model.specs.Rows.{value_of}
use Rattle.edit_model.specs.declared.field.Field.{Field}
use Rattle.edit_model.specs.declared.field.Kind.{Kind}
use Rattle.edit_model.specs.declared.field.Kind.TheVariants as kind
use Rattle.edit_model.specs.declared.value.Value.{Value}
use Rattle.edit_model.specs.declared.value.Value.TheVariants.{Code, Number, Bad}

-- whether the point has another value at field i than v, or v is Bad
abbrev pub differs_from : Value → Point → ℕ → Bool
differs_from (Code c) p i = not (c == p.code i)
differs_from (Number x) p i = not (int_eq (p.numerator i *ℤ x.denominator) (x.numerator *ℤ p.denominator))
differs_from Bad p i = true

-- the point differs from the record at field i
abbrev pub Differs : List Value → Point → ℕ → Type 0
Differs row p i = IsTrue (differs_from (value_of row i) p i)

-- a correction is a consistent point
abbrev pub IsCorrection : SurveyParts → Point → Type 0
IsCorrection survey p = IsConsistent survey p

-- the weights of the fields, from number i on, at which the point differs from the values
abbrev pub weight_from : ℕ → List Field → List Value → Point → ℕ
weight_from i (field ∷ fields) (v ∷ values) p = (if differs_from v p i then field.weight else 0) + weight_from (suc i) fields values p
weight_from i _ _ p = 0

-- what it weighs to change the record into the point: the sum of the weights of the changed fields
abbrev pub change_weight : SurveyParts → List Value → Point → ℕ
change_weight survey row p = weight_from 0 survey.fields row p

-- the least weight: some correction has it, and none weighs less
pub record IsLeastWeight (survey : SurveyParts) (row : List Value) (w : ℕ) : Type 0 where
  pub reached : (p : Point) × IsCorrection survey p × (change_weight survey row p ≡ w)
  pub least : (p : Point) → IsCorrection survey p → w ≤ change_weight survey row p

-- a correction of the least weight (Fellegi and Holt 1976, the principle of least change)
pub record IsLeastCorrection (survey : SurveyParts) (row : List Value) (p : Point) : Type 0 where
  pub correction : IsCorrection survey p
  pub least : (q : Point) → IsCorrection survey q → change_weight survey row p ≤ change_weight survey row q

-- whether a field is numerical
abbrev pub is_numerical : Kind → Bool
is_numerical (kind.Number scale) = true
is_numerical (kind.Code codes) = false

-- the numbers of the fields, from i on, for which the test is true
abbrev pub numbers_from : (Kind → Bool) → ℕ → List Field → List ℕ
numbers_from test i [] = []
numbers_from test i (field ∷ more) = if test field.kind then i ∷ numbers_from test (suc i) more else numbers_from test (suc i) more

-- the numbers of the numerical fields, in declared order
abbrev pub number_fields : List Field → List ℕ
number_fields fields = numbers_from is_numerical 0 fields

-- the numbers of the categorical fields, in declared order
abbrev pub code_fields : List Field → List ℕ
code_fields fields = numbers_from (λ k. not (is_numerical k)) 0 fields

-- the order in which fields are looked at: the numerical ones as declared, then the categorical ones
abbrev pub path_order : List Field → List ℕ
path_order fields = number_fields fields ++ code_fields fields

-- whether the point differs from the record, field by field in path order: false for kept, true for changed
abbrev pub word_of : SurveyParts → List Value → Point → List Bool
word_of survey row p = map (λ i. differs_from (value_of row i) p i) (path_order survey.fields)

-- one word comes before another or is the same: letter by letter, kept before changed, a prefix before what extends it
abbrev pub is_first : List Bool → List Bool → Bool
is_first [] second = true
is_first (a ∷ first) [] = false
is_first (false ∷ first) (false ∷ second) = is_first first second
is_first (false ∷ first) (true ∷ second) = true
is_first (true ∷ first) (false ∷ second) = false
is_first (true ∷ first) (true ∷ second) = is_first first second

-- which fields are changed where several corrections have the least weight: those of the first of their words
pub record IsFirstLeast (survey : SurveyParts) (row : List Value) (word : List Bool) : Type 0 where
  pub reached : (p : Point) × IsLeastCorrection survey row p × (word_of survey row p ≡ word)
  pub first : (p : Point) → IsLeastCorrection survey row p → IsTrue (is_first word (word_of survey row p))
