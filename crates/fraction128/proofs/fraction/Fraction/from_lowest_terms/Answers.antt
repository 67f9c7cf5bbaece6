use Rattle.std.proofs.lemmas.Int.{to_z-of_z}
use Rattle.fraction128.proofs.fraction.Fraction.from_lowest_terms.Goals as goal

pub invariant_of-result : goal.invariant_of-result
invariant_of-result c =
    let numerator_fits = c.ranges.numerator in
    let denominator_fits = c.ranges.denominator in
    simp to_z-of_z record {
      positive = c.requires.positive;
      numerator_in_range = c.requires.numerator_in_range;
      denominator_in_range = c.requires.denominator_in_range;
      reduced = c.requires.coprime;
    }
