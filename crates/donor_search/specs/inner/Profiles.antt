-- What a record is compared by with donors that may be far.
use Rattle.std.specs.Prelude.{◌≡◌, All, ℕ, suc, ◌+◌, ◌-◌, ◌*◌, if◌then◌else◌, List, [], ◌∷◌, max, min}
use Rattle.std.specs.Int.{abs_diff}
use Rattle.edit_model.specs.FieldSets.{has_number}
use Rattle.edit_model.specs.Rows.{value_of}
use Rattle.edit_model.specs.declared.value.Value.{Value}
use Rattle.donor_measure.specs.Buckets.{mark_of}
use Rattle.donor_measure.specs.Yardsticks.{IsYardstick}
use Rattle.donor_measure.specs.declared.yardstick.Yardstick.{Yardstick}
use Rattle.donor_search.specs.declared.profile.Weighed.{Weighed}
use Rattle.donor_search.specs.declared.ranges.MarkRange.{MarkRange}

-- the mark of a record at a field with the field's weight; 0 and 0 where the field is not kept
abbrev pub weighed_at : Yardstick → ℕ → ℕ → List Value → Weighed
weighed_at yardstick i kept row =
    if has_number kept i
    then record { weight = yardstick.weight; mark = mark_of yardstick.scale (value_of row i) }
    else record { weight = 0; mark = 0 }

-- those of a record at the fields from number i on
abbrev pub weighed_from : ℕ → List Yardstick → ℕ → List Value → List Weighed
weighed_from i [] kept row = []
weighed_from i (yardstick ∷ yardsticks) kept row = weighed_at yardstick i kept row ∷ weighed_from (suc i) yardsticks kept row

-- the profile of a record: its marks with the weights of the fields, which are within the limits of a survey
pub record IsProfile (yardsticks : List Yardstick) (kept : ℕ) (row : List Value) (profile : List Weighed) : Type 0 where
  pub weighed : profile ≡ weighed_from 0 yardsticks kept row
  pub fit : All IsYardstick yardsticks

-- how far two values are at least apart, as their marks tell: the weight times one less than these differ, at most 1000
abbrev pub told_by : Weighed → ℕ → ℕ
told_by own mark = own.weight * min 1000 (abs_diff own.mark mark - 1)

-- how far a donor is at least from a record, as its marks tell: the sum over the fields
abbrev pub told : List Weighed → List ℕ → ℕ
told [] marks = 0
told (own ∷ owns) [] = 0
told (own ∷ owns) (mark ∷ marks) = told_by own mark + told owns marks

-- what a mark and a range tell at least of how far two values are apart
abbrev pub told_by_range : Weighed → MarkRange → ℕ
told_by_range own range = own.weight * min 1000 (max (range.low - own.mark) (own.mark - range.high) - 1)

-- what the ranges of a block tell at least of how far each of its donors is from a record
abbrev pub told_by_ranges : List Weighed → List MarkRange → ℕ
told_by_ranges [] ranges = 0
told_by_ranges (own ∷ owns) [] = 0
told_by_ranges (own ∷ owns) (range ∷ ranges) = told_by_range own range + told_by_ranges owns ranges
