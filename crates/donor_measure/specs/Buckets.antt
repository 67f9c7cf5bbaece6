-- Buckets as numbers from 0 on, and marks: small numbers that tell donors that are far away.
use Rattle.std.specs.Prelude.{ℕ, pos, unsigned_abs, ◌+◌, ◌-◌, ◌*◌, ◌%◌, ◌^◌, ◌+ℤ◌, min, Option, Some, None, List, [], ◌∷◌, suc}
use Rattle.fraction128.specs.declared.fraction.Fraction.{Fraction}
use Rattle.edit_model.specs.RowPoints.{code_in}
use Rattle.edit_model.specs.Rows.{value_of}
use Rattle.edit_model.specs.declared.value.Value.{Value}
use Rattle.edit_model.specs.declared.value.Value.TheVariants.{Code, Number, Bad}
use Rattle.donor_measure.specs.Distances.{bucket_of}
use Rattle.donor_measure.specs.declared.yardstick.Yardstick.{Yardstick}

-- the bucket of a number, counted from the lowest that a plain number has
abbrev pub number_bucket : ℕ → Fraction → ℕ
number_bucket scale x = unsigned_abs (bucket_of scale x +ℤ pos (10 ^ 24))

-- the bucket of a value, counted from the lowest; 0 where it is no number
abbrev pub bucket_no : ℕ → Value → ℕ
bucket_no scale (Number x) = number_bucket scale x
bucket_no scale (Code c) = 0
bucket_no scale Bad = 0

-- a number folded into 16 bits: as numbers rise, it runs up from 0 to 2 ^ 16 - 1, down again, and so on
abbrev pub folded : ℕ → ℕ
folded n = min (n % 2 ^ 17) (2 ^ 17 - 1 - n % 2 ^ 17)

-- a value's mark: the bucket of a number, folded such that those nearest to 0 rise, and 1001 times a code, folded
abbrev pub mark_of : Option ℕ → Value → ℕ
mark_of (Some scale) v = folded (bucket_no scale v + 2 ^ 15)
mark_of None v = folded (1001 * code_in v)

-- the marks of a record's values, from field i on
abbrev pub marks_from : ℕ → List Yardstick → List Value → List ℕ
marks_from i [] row = []
marks_from i (yardstick ∷ yardsticks) row = mark_of yardstick.scale (value_of row i) ∷ marks_from (suc i) yardsticks row

-- the marks of a record's values, in the order of the fields
abbrev pub marks_of : List Yardstick → List Value → List ℕ
marks_of yardsticks row = marks_from 0 yardsticks row
