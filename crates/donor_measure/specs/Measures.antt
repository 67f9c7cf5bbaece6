use Rattle.std.specs.Prelude.{◌≡◌, ℕ, ◌<◌, ◌≤◌, true, List, Option, Some, None, length}
use Rattle.std.specs.Borrow.{Bor}
use Rattle.std.specs.Fn.{Shared}
use Rattle.edit_model.specs.FieldSets.{has_number}
use Rattle.edit_model.specs.PlainNumbers.{IsPlain}
use Rattle.edit_model.specs.Rows.{value_of}
use Rattle.edit_model.specs.declared.value.Value.{Value}
use Rattle.edit_model.specs.declared.value.Value.TheVariants.{Code, Number}
use Rattle.donor_measure.specs.Distances.{bucket_gap, field_distance}
use Rattle.donor_measure.specs.Yardsticks.{yardstick_at}
use Rattle.donor_measure.specs.declared.yardstick.Yardstick.{Yardstick}

-- a code where there is no scale, and a plain number where there is one
abbrev pub IsMeasurable : Option ℕ → Value → Type 0
IsMeasurable None (Code c) = Unit {0}
IsMeasurable (Some scale) (Number x) = IsPlain x
IsMeasurable _ _ = ⊥

-- the record has a code or a plain number at each kept field
abbrev pub HasMeasurable : List Yardstick → ℕ → List Value → Type 0
HasMeasurable yardsticks kept row =
    (i : ℕ) → i < length yardsticks → has_number kept i ≡ true → IsMeasurable (yardstick_at yardsticks i).scale (value_of row i)

-- two values of field i, which can be measured
pub record AreMeasurable (yardsticks : List Yardstick) (i : ℕ) (v w : Value) : Type 0 where
  pub field : i < length yardsticks
  pub small : i < 64
  pub first : IsMeasurable (yardstick_at yardsticks i).scale v
  pub second : IsMeasurable (yardstick_at yardsticks i).scale w

-- what is known of a closure that measures the fields of a survey: at a field and two values of it that can be measured it may be
-- called, it answers their distance, and that is at least their bucket gap
pub record Measures {F : Type 0} (calls : Shared F (ℕ × (Bor Value × (Bor Value × Unit {0}))) ℕ)
    (closure : F) (yardsticks : List Yardstick) : Type 0 where
  pub callable : (i : ℕ) (v w : Bor Value) → AreMeasurable yardsticks i v.now w.now → calls.pre closure (i, (v, (w, tt)))
  pub distance : (i : ℕ) (v w : Bor Value) (answer : ℕ) → AreMeasurable yardsticks i v.now w.now
      → calls.post closure (i, (v, (w, tt))) answer → answer ≡ field_distance (yardstick_at yardsticks i) v.now w.now
  pub gap : (i : ℕ) (v w : Bor Value) (answer : ℕ) → AreMeasurable yardsticks i v.now w.now
      → calls.post closure (i, (v, (w, tt))) answer → bucket_gap (yardstick_at yardsticks i) v.now w.now ≤ answer
