use Rattle.std.proofs.Common.{◌≡◌, ℕ, ◌-◌, ◌+◌, ◌*◌, ◌^◌, ◌<◌, ◌≤◌, ◌==◌, if◌then◌else◌, min}
use Rattle.std.proofs.Common.{ℤ, pos, negsuc, ◌+ℤ◌, ◌-ℤ◌, ◌*ℤ◌, ◌<ℤ◌, unsigned_abs, Option, Some, None, ap, sym, ◌∙◌, arith}
use Rattle.std.proofs.Math.Nat.{div-le_self}
use Rattle.std.proofs.lemmas.Int.{ints}
use Rattle.std.specs.Int.{abs_diff, int_div_euclid}
use Rattle.fraction128.specs.declared.fraction.Fraction.{Fraction}
use Rattle.edit_model.specs.PlainNumbers.{IsPlain}
use Rattle.edit_model.specs.declared.value.Value.{Value}
use Rattle.edit_model.specs.declared.value.Value.TheVariants.{Code, Number, Bad}
use Rattle.donor_measure.specs.declared.yardstick.Yardstick.{Yardstick}
use Rattle.donor_measure.specs.Buckets.{bucket_no, folded, mark_of, number_bucket}
use Rattle.donor_measure.specs.Distances.{bucket_gap, bucket_of, buckets_between, value_distance}
use Rattle.donor_measure.specs.Measures.{IsMeasurable}
use Rattle.donor_measure.specs.Yardsticks.{IsScale}
use Rattle.donor_measure.proofs.BucketLaws.{above_zero, buckets_few}

-- What buckets that are counted from 0 on, and marks, tell of how far two values are apart.

quotient_few : (z : ℤ) (n : ℕ) → 0 < n → unsigned_abs (int_div_euclid z (pos n)) ≤ unsigned_abs z
quotient_few (pos a) n some = div-le_self a n
quotient_few (negsuc a) n some = omega (arith, div-le_self a n)

times_few : (a : ℤ) → unsigned_abs a < 10 ^ 21 → unsigned_abs (pos 1000 *ℤ a) ≤ 10 ^ 24
times_few a few = omega (arith, ints, few)

-- no bucket of a plain number is below the lowest
bucket_low : (scale : ℕ) (x : Fraction) → 1 ≤ scale → IsPlain x → unsigned_abs (bucket_of scale x) ≤ 10 ^ 24
bucket_low scale x some plain = of_parts x.numerator x.denominator x.positive plain.0
  where
    of_parts : (a b : ℤ) → pos 0 <ℤ b → unsigned_abs a < 10 ^ 21 → unsigned_abs (int_div_euclid (pos 1000 *ℤ a) (b *ℤ pos scale)) ≤ 10 ^ 24
    of_parts a (negsuc b) p few = absurd p.lt
    of_parts a (pos b) p few =
        let some_b : 0 < b = omega (arith, ints, p) in
        let unit : 0 < b * scale = above_zero b scale some_b some in
        let q = quotient_few (pos 1000 *ℤ a) (b * scale) unit in
        omega (arith, q, times_few a few)

-- so numbers from 0 on are as far apart as the buckets that they count
apart_same : (a b : ℤ) → unsigned_abs a ≤ 10 ^ 24 → unsigned_abs b ≤ 10 ^ 24 → abs_diff (unsigned_abs (a +ℤ pos (10 ^ 24))) (unsigned_abs (b +ℤ pos (10 ^ 24)))
    ≡ unsigned_abs (a -ℤ b)
apart_same a b low also = omega (arith, ints, low, also)

-- the bucket gap of two numbers by their buckets, counted from 0 on
pub gap_by_buckets : (yardstick : Yardstick) (scale : ℕ) (v w : Value) → yardstick.scale ≡ Some scale → 1 ≤ scale → IsMeasurable (Some scale) v
    → IsMeasurable (Some scale) w
    → bucket_gap yardstick v w ≡ yardstick.weight * min 1000 (abs_diff (bucket_no scale v) (bucket_no scale w) - 1)
gap_by_buckets yardstick scale (Number x) (Number y) is some first second =
    ap (λ (o : Option ℕ). yardstick.weight * buckets_between o (Number x) (Number y)) is
    ∙ ap (λ n. yardstick.weight * min 1000 (n - 1))
    (sym (apart_same (bucket_of scale x) (bucket_of scale y) (bucket_low scale x some first) (bucket_low scale y some second)))
gap_by_buckets yardstick scale (Code c) w is some first second = absurd first
gap_by_buckets yardstick scale Bad w is some first second = absurd first
gap_by_buckets yardstick scale (Number x) (Code c) is some first second = absurd second
gap_by_buckets yardstick scale (Number x) Bad is some first second = absurd second

-- folded numbers are no farther apart than the numbers
folded_near : (a b : ℕ) → abs_diff (folded a) (folded b) ≤ abs_diff a b
folded_near a b = omega arith

-- marks are no farther apart than buckets
marks_near : (a b : ℕ) → min 1000 (abs_diff (folded (a + 2 ^ 15)) (folded (b + 2 ^ 15)) - 1) ≤ min 1000 (abs_diff a b - 1)
marks_near a b = let near = folded_near (a + 2 ^ 15) (b + 2 ^ 15) in omega (arith, near)

codes_apart : (a b : ℕ) → min 1000 (abs_diff (folded (1001 * a)) (folded (1001 * b)) - 1) ≤ (if a == b then 0 else 1000)
codes_apart a b = let near = folded_near (1001 * a) (1001 * b) in grind (arith, near)

-- the marks of two values tell no more than their distance
pub marks_few : (scale : Option ℕ) (v w : Value) → IsScale scale → IsMeasurable scale v → IsMeasurable scale w
    → min 1000 (abs_diff (mark_of scale v) (mark_of scale w) - 1) ≤ value_distance scale v w
marks_few None (Code a) (Code b) is first second = codes_apart a b
marks_few None (Code a) (Number y) is first second = absurd second
marks_few None (Code a) Bad is first second = absurd second
marks_few None (Number x) w is first second = absurd first
marks_few None Bad w is first second = absurd first
marks_few (Some scale) (Number x) (Number y) is first second =
    let near = marks_near (number_bucket scale x) (number_bucket scale y) in
    let same = apart_same (bucket_of scale x) (bucket_of scale y) (bucket_low scale x is.0 first) (bucket_low scale y is.0 second) in
    let few = buckets_few (Some scale) (Number x) (Number y) is in
    omega (arith, near, same, few)
marks_few (Some scale) (Number x) (Code c) is first second = absurd second
marks_few (Some scale) (Number x) Bad is first second = absurd second
marks_few (Some scale) (Code c) w is first second = absurd first
marks_few (Some scale) Bad w is first second = absurd first
