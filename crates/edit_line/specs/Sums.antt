use Rattle.std.specs.Prelude.{◌≢◌, ℕ, ℤ, ◌&&◌, ◌||◌, not, Bool, true, List, ◌∷◌, Option, Some, Result, Ok, pos, if◌then◌else◌}
use Rattle.std.specs.Ordering.{int_eq}
use Rattle.std.specs.Option.{ok_or}
use Rattle.foundation.specs.Results.{◌>>=◌}
use Rattle.fraction128.specs.Formulas.{Ratio}
use Rattle.edit_model.specs.Points.{Point}
use Rattle.edit_model.specs.RowPoints.{Agrees}
use Rattle.edit_model.specs.Rows.{value_of}
use Rattle.edit_model.specs.Trials.{sum_with}
use Rattle.edit_model.specs.declared.value.Value.{Value}
use Rattle.edit_line.specs.Lines.{LineParts}
use Rattle.edit_line.specs.Shapes.{number_fields}
use Rattle.edit_line.specs.Subsumption.{is_enough}
use Rattle.edit_line.specs.declared.relation.Relation.{Relation}

-- the fact holds of each field beside a factor other than 0
abbrev pub AtFactors : (ℕ → Type 0) → List ℕ → List ℤ → Type 0
AtFactors P (f ∷ fields) (a ∷ factors) = (a ≢ pos 0 → P f) × AtFactors P fields factors
AtFactors P _ _ = Unit {0}

-- whether the test is true for each field beside a factor other than 0
abbrev pub stands_only : (ℕ → Bool) → List ℕ → List ℤ → Bool
stands_only test (f ∷ fields) (a ∷ factors) = (int_eq a (pos 0) || test f) && stands_only test fields factors
stands_only test _ _ = true

-- the point has the record's values at the fields that stand in the line
abbrev pub AgreesOnLine : List Value → Point → LineParts → Type 0
AgreesOnLine row p line = AtFactors (λ f. Agrees row p f) (number_fields line.shape) line.factors

-- the sum so far, and a factor times a value; the factor 0 adds nothing
abbrev pub next_sum : ℤ → Value → Ratio → Option Ratio
next_sum a v sum = if int_eq a (pos 0) then Some sum else sum_with sum a v

-- the sum so far, and the factors times the record's numbers at their fields, in declared order; or the first field
-- at which a number leaves the range
abbrev pub sum_from : List ℕ → List ℤ → List Value → Ratio → Result Ratio ℕ
sum_from (f ∷ fields) (a ∷ factors) row sum = do
  next ← ok_or (next_sum a (value_of row f) sum) f
  sum_from fields factors row next
sum_from _ _ row sum = Ok sum

-- a whole number, over 1
abbrev pub whole : ℤ → Ratio
whole n = record { numerator = n; denominator = pos 1 }

-- the line's sum at a record: the constant over 1, and then the numerical fields whose factor is not 0
abbrev pub sum_at : LineParts → List Value → Result Ratio ℕ
sum_at line row = sum_from (number_fields line.shape) line.factors row (whole line.constant)

-- whether a sum is not as the relation asks; where there is no sum, its overflow stays
abbrev pub fails_by : Relation → Result Ratio ℕ → Result Bool ℕ
fails_by relation answer = answer >>= (λ sum. Ok (not (is_enough relation sum.numerator)))

-- whether the line's linear part is false at a record; or the first field at which a number of its sum leaves the range
abbrev pub fails_at : LineParts → List Value → Result Bool ℕ
fails_at line row = fails_by line.relation (sum_at line row)
