use Rattle.std.proofs.Common.{arith, lit<}
use Rattle.std.proofs.lemmas.Int.{ints, to_z-of_z}
use mir.Syntax.{w128}
use Rattle.fraction128.proofs.DivisorLaws.{IsGcd-one}
use Rattle.fraction128.proofs.fraction.Fraction.whole.Goals as goal

pub invariant_of-result : goal.invariant_of-result
invariant_of-result c = record {
  positive = omega (arith, ints);
  numerator_in_range = rw (to_z-of_z w128 c.args.number c.ranges.number) c.requires;
  denominator_in_range = lit< tt;
  reduced = IsGcd-one _;
}
