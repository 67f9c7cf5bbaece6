-- The numbers among the values of a field: their sum, the least and the greatest.
use Rattle.std.specs.Prelude.{List, [], ◌∷◌, Option, Some, Contains, pos, ◌*ℤ◌, ◌≤ℤ◌}
use Rattle.foundation.specs.Options.{◌>>?◌}
use Rattle.fraction128.specs.Formulas.{Ratio, added, ratio_of}
use Rattle.fraction128.specs.declared.fraction.Fraction.{Fraction}
use Rattle.edit_model.specs.declared.value.Value.{Value}
use Rattle.edit_model.specs.declared.value.Value.TheVariants.{Code, Number, Bad}

-- ---- the sum

-- the sum with a value, None where a number leaves the range; what is no number adds nothing
abbrev pub sum_with : Ratio → Value → Option Ratio
sum_with sum (Number x) = added sum (ratio_of x)
sum_with sum (Code c) = Some sum
sum_with sum Bad = Some sum

-- the sum so far, and then the values, one after the other
abbrev pub sum_over : List Value → Ratio → Option Ratio
sum_over [] sum = Some sum
sum_over (v ∷ values) sum = sum_with sum v >>? (λ next. sum_over values next)

-- the sum of the numbers
abbrev pub sum_of : List Value → Option Ratio
sum_of values = sum_over values (record { numerator = pos 0; denominator = pos 1 })

-- ---- the least and the greatest

-- a number is at most another
abbrev pub IsAtMost : Fraction → Fraction → Type 0
IsAtMost x y = (x.numerator *ℤ y.denominator) ≤ℤ (y.numerator *ℤ x.denominator)

-- a number is at least another
abbrev pub IsAtLeast : Fraction → Fraction → Type 0
IsAtLeast x y = IsAtMost y x

-- one of the numbers, which none of them comes before
pub record IsFirstBy (order : Fraction → Fraction → Type 0) (values : List Value) (x : Fraction) : Type 0 where
  pub among : Contains values (Number x)
  pub first : (y : Fraction) → Contains values (Number y) → order x y

-- the least of the numbers
abbrev pub IsLeast : List Value → Fraction → Type 0
IsLeast values x = IsFirstBy IsAtMost values x

-- the greatest of the numbers
abbrev pub IsGreatest : List Value → Fraction → Type 0
IsGreatest values x = IsFirstBy IsAtLeast values x

-- no value is a number
abbrev pub HaveNoNumber : List Value → Type 0
HaveNoNumber values = (x : Fraction) → ¬ Contains values (Number x)
