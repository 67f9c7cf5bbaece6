use Rattle.std.proofs.Common.{pos, ◌-ℤ◌}
use Rattle.std.proofs.lemmas.Int.{to_z-of_z}
use Rattle.fraction128.specs.Range.{InRange}
use Rattle.fraction128.proofs.RangeLaws.{FitsSigned-in_range, unsigned_abs-negative}
use Rattle.fraction128.proofs.fraction.Fraction.negated.Goals as goal

pub invariant_of-result : goal.invariant_of-result
invariant_of-result c =
    let x = c.args.self in
    let same_size = unsigned_abs-negative x.numerator in
    let in_range : InRange (pos 0 -ℤ x.numerator) = rw same_size x.numerator_in_range in
    let numerator_fits = FitsSigned-in_range x.numerator x.numerator_in_range in
    let negative_fits = FitsSigned-in_range (pos 0 -ℤ x.numerator) in_range in
    let denominator_fits = FitsSigned-in_range x.denominator x.denominator_in_range in
    simp to_z-of_z record {
      positive = x.positive;
      numerator_in_range = in_range;
      denominator_in_range = x.denominator_in_range;
      reduced = rw same_size x.reduced;
    }
