use Rattle.std.proofs.Common.{◌≡◌, ℤ, ◌*ℤ◌, int_div, FitsSigned, rules}
use Rattle.std.proofs.lemmas.Int.{to_z-of_z}
use mir.Syntax.{w128}
use Rattle.fraction128.specs.Divisor.{int_gcd}
use Rattle.fraction128.proofs.CofactorLaws.{above-apart, first-in_range, second-in_range, second-above, cofactors-coprime, cofactors-cross}
use Rattle.fraction128.proofs.fraction.Fraction.reduced.Goals as goal
use Rattle.fraction128.proofs.fraction.Fraction.reduced.Goals.{After-of-lowest}

module _ (c : After-of-lowest) where
  abbrev numerator : ℤ
  numerator = c.args.numerator

  abbrev denominator : ℤ
  denominator = c.args.denominator

  first : c.of-lowest.result.first ≡ int_div numerator (int_gcd numerator denominator)
  first =
      let numerator_fits = c.ranges.numerator in
      let denominator_fits = c.ranges.denominator in
      simp to_z-of_z at c.of-lowest.ensures.first

  second : c.of-lowest.result.second ≡ int_div denominator (int_gcd numerator denominator)
  second =
      let numerator_fits = c.ranges.numerator in
      let denominator_fits = c.ranges.denominator in
      simp to_z-of_z at c.of-lowest.ensures.second

pub from_lowest_terms-requires : goal.from_lowest_terms-requires
from_lowest_terms-requires c =
    let at = (goal.at.from_lowest_terms-requires c).After-of-lowest in
    let first_fits : FitsSigned w128 c.of-lowest.result.first = search rules in
    let second_fits : FitsSigned w128 c.of-lowest.result.second = search rules in
    simp to_z-of_z record {
      numerator_in_range = first-in_range (numerator at) (denominator at) _ _ (first at) (second at) c.requires.numerator_in_range;
      denominator_in_range = second-in_range (numerator at) (denominator at) _ _ (first at) (second at) c.requires.denominator_in_range;
      positive = second-above (numerator at) (denominator at) _ _ (first at) (second at) c.requires.positive;
      coprime = cofactors-coprime (numerator at) (denominator at) _ _ (first at) (second at) (above-apart (denominator at) c.requires.positive);
    }

pub returns : goal.returns
returns c =
    let at = (goal.at.returns c).After-of-lowest in
    let first_fits : FitsSigned w128 c.of-lowest.result.first = search rules in
    let second_fits : FitsSigned w128 c.of-lowest.result.second = search rules in
    let numerator_is = simp to_z-of_z at c.from_lowest_terms.ensures.numerator in
    let denominator_is = simp to_z-of_z at c.from_lowest_terms.ensures.denominator in
    record { same = same_by _ _ _ _ _ _ numerator_is denominator_is (cofactors-cross (numerator at) (denominator at) _ _ (first at) (second at)) }
  where
    same_by : (n d p q u v : ℤ) → u ≡ p → v ≡ q → p *ℤ d ≡ n *ℤ q → u *ℤ d ≡ n *ℤ v
    same_by n d p q u v e f h = rw (e, f) h
