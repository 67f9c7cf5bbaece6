use Rattle.std.specs.Prelude.{ℕ, ℤ, ◌<◌, not, Bool, true, List, [], ◌∷◌, Option, Some, All, length, pos, if◌then◌else◌}
use Rattle.foundation.specs.Options.{◌>>?◌}
use Rattle.fraction128.specs.Formulas.{Ratio, added, ratio_of, scaled}
use Rattle.edit_model.specs.Points.{Point, compares, has_code}
use Rattle.edit_model.specs.RowPoints.{Agrees, code_in}
use Rattle.edit_model.specs.Rows.{value_of}
use Rattle.edit_model.specs.declared.rule.Linear.{Linear}
use Rattle.edit_model.specs.declared.rule.Rule.{Rule}
use Rattle.edit_model.specs.declared.rule.Term.{Term}
use Rattle.edit_model.specs.declared.rule.Test.{Test}
use Rattle.edit_model.specs.declared.rule.Test.TheVariants as test
use Rattle.edit_model.specs.declared.value.Value.{Value}
use Rattle.edit_model.specs.declared.value.Value.TheVariants.{Code, Number, Bad}

-- ---- the values that a rule needs

-- the value is a number
abbrev pub IsNumberValue : Value → Type 0
IsNumberValue (Number x) = Unit {0}
IsNumberValue (Code c) = ⊥
IsNumberValue Bad = ⊥

-- the value is a code
abbrev pub IsCodeValue : Value → Type 0
IsCodeValue (Code c) = Unit {0}
IsCodeValue (Number x) = ⊥
IsCodeValue Bad = ⊥

-- the record has what the test needs: a number at the field of each term, or a code at the test's field
abbrev pub HasValues : List Value → Test → Type 0
HasValues row (test.Number linear) = All (λ (t : Term). (t.field < length row) × IsNumberValue (value_of row t.field)) linear.terms
HasValues row (test.Codes field negated set) = (field < length row) × IsCodeValue (value_of row field)

-- the record has what each test of the rule needs
pub record CanTry (row : List Value) (rule : Rule) : Type 0 where
  pub conditions : All (HasValues row) rule.conditions
  pub conclusion : HasValues row rule.conclusion

-- the point has the record's values where the test reads them
abbrev pub AgreesOnTest : List Value → Point → Test → Type 0
AgreesOnTest row p (test.Number linear) = All (λ (t : Term). Agrees row p t.field) linear.terms
AgreesOnTest row p (test.Codes field negated set) = Agrees row p field

-- the point has the record's values where the rule's tests read them
pub record AgreesOnRule (row : List Value) (p : Point) (rule : Rule) : Type 0 where
  pub conditions : All (AgreesOnTest row p) rule.conditions
  pub conclusion : AgreesOnTest row p rule.conclusion

-- ---- a rule that is tried at a record, in numbers of at most 127 bits

-- the sum so far, and a value times a factor; None where a number leaves the range; a value that is no number adds nothing
abbrev pub sum_with : Ratio → ℤ → Value → Option Ratio
sum_with sum k (Number x) = scaled (ratio_of x) k >>? (λ product. added sum product)
sum_with sum k (Code c) = Some sum
sum_with sum k Bad = Some sum

-- the sum so far, and the values times the factors of the terms, in their order; None where a number leaves the range
abbrev pub sum_over : List Term → List Value → Ratio → Option Ratio
sum_over [] row sum = Some sum
sum_over (term ∷ terms) row sum = sum_with sum term.factor (value_of row term.field) >>? (λ next. sum_over terms row next)

-- the sum of a linear test at a record: its constant over 1, and then its terms; None where a number leaves the range
abbrev pub trial_sum : Linear → List Value → Option Ratio
trial_sum linear row = sum_over linear.terms row (record { numerator = linear.constant; denominator = pos 1 })

-- whether a set has a code, or has it not where the test is negated
abbrev pub code_test : Bool → ℕ → ℕ → Bool
code_test negated set code = if negated then not (has_code set code) else has_code set code

-- whether a test is true at a record; None where a number of its sum leaves the range
abbrev pub test_at : Test → List Value → Option Bool
test_at (test.Number linear) row = trial_sum linear row >>? (λ sum. Some (compares linear.compare sum.numerator))
test_at (test.Codes field negated set) row = Some (code_test negated set (code_in (value_of row field)))

-- the conditions are tried in order up to the first false one, and where none is false the conclusion is; None at a
-- test whose sum leaves the range
abbrev pub tests_at : List Test → Test → List Value → Option Bool
tests_at [] conclusion row = test_at conclusion row
tests_at (condition ∷ conditions) conclusion row =
    test_at condition row >>? (λ holds. if holds then tests_at conditions conclusion row else Some true)

-- whether a rule holds at a record; None where a number of a sum that is tried leaves the range
abbrev pub rule_at : Rule → List Value → Option Bool
rule_at rule row = tests_at rule.conditions rule.conclusion row
