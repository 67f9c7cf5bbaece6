use Rattle.std.proofs.Common.{◌≡◌, ℤ, int_div, pos, ◌*ℤ◌, ◌<ℤ◌, unsigned_abs, sym, ap, subst, ◌∙◌, FitsSigned, rules, arith}
use Rattle.std.proofs.lemmas.Int.{ints, to_z-of_z}
use Rattle.std.proofs.lemmas.Result.{IfOk-from_err}
use lib.IntN.{neg_ℤ}
use mir.Syntax.{w128}
use Rattle.fraction128.specs.Arithmetic.{divided_numbers}
use Rattle.fraction128.specs.Divisor.{int_gcd}
use Rattle.fraction128.specs.Range.{InRange, AllInRange}
use Rattle.fraction128.specs.declared.fraction.Fraction.{Fraction}
use Rattle.fraction128.proofs.RangeLaws.{FitsSigned-in_range, OnErr-always}
use Rattle.fraction128.proofs.CofactorLaws.{second-size_above}
use Rattle.fraction128.proofs.FormulaLaws.{part_size, quotient-coprime, quotient_in_range, quotient_is, quotient_is_negative}
use Rattle.fraction128.proofs.Signs.{above-*}
use Rattle.fraction128.proofs.fraction.Fraction.divide.Goals as goal
use Rattle.fraction128.proofs.fraction.Fraction.divide.Goals.{After-of-parts}

-- the numbers of a quotient are not in range where its denominator is not
quotient-overflows : (x : Fraction) (k q size : ℤ) → q ≡ int_div k (int_gcd x.numerator k) → size ≡ pos (unsigned_abs q)
    → ¬ InRange (x.denominator *ℤ size) → ¬ AllInRange (divided_numbers x k)
quotient-overflows x k q size e size_is out all =
    out (subst (λ (n : ℤ). InRange (x.denominator *ℤ n)) (sym (size_is ∙ part_size x.numerator k q e)) all.0)

module _ (c : After-of-parts) where
  first : c.of-parts.result.first ≡ int_div c.args.self.numerator (int_gcd c.args.self.numerator c.args.divisor)
  first =
      let numerator_fits = FitsSigned-in_range c.args.self.numerator c.args.self.numerator_in_range in
      let divisor_fits = c.ranges.divisor in
      simp to_z-of_z at c.of-parts.ensures.first

  second : c.of-parts.result.second ≡ int_div c.args.divisor (int_gcd c.args.self.numerator c.args.divisor)
  second =
      let numerator_fits = FitsSigned-in_range c.args.self.numerator c.args.self.numerator_in_range in
      let divisor_fits = c.ranges.divisor in
      simp to_z-of_z at c.of-parts.ensures.second

pub from_lowest_terms-quotient-requires-clause-positive : goal.from_lowest_terms-quotient-requires-clause-positive
from_lowest_terms-quotient-requires-clause-positive c =
    let at = (goal.at.from_lowest_terms-quotient-requires-clause-positive c).After-of-parts in
    let x = c.args.self in
    let result_fits : FitsSigned w128 c.in_ok-denominator.denominator = search rules in
    let x_fits = FitsSigned-in_range x.denominator x.denominator_in_range in
    let size_fits : FitsSigned w128 c.abs.result = search rules in
    let second_fits : FitsSigned w128 c.of-parts.result.second = search rules in
    let size_is = simp to_z-of_z at c.abs.ensures.value in
    let is = simp to_z-of_z at c.in_ok-denominator.ensures.1 in
    let above = second-size_above _ _ _ _ (first at) (second at) c.requires.not_zero in
    simp to_z-of_z (rw (is, size_is) (above-* x.denominator _ x.positive above))

pub from_lowest_terms-quotient-requires-clause-coprime : goal.from_lowest_terms-quotient-requires-clause-coprime
from_lowest_terms-quotient-requires-clause-coprime c =
    let at = (goal.at.from_lowest_terms-quotient-requires-clause-coprime c).After-of-parts in
    let x = c.args.self in
    let result_fits : FitsSigned w128 c.in_ok-denominator.denominator = search rules in
    let x_fits = FitsSigned-in_range x.denominator x.denominator_in_range in
    let size_fits : FitsSigned w128 c.abs.result = search rules in
    let first_fits : FitsSigned w128 c.of-parts.result.first = search rules in
    let second_fits : FitsSigned w128 c.of-parts.result.second = search rules in
    let size_is = simp to_z-of_z at c.abs.ensures.value in
    let is = simp to_z-of_z at c.in_ok-denominator.ensures.1 in
    simp to_z-of_z (quotient-coprime x.numerator x.denominator c.args.divisor _ _ _ (first at) (second at) (is ∙ ap (λ (n : ℤ). x.denominator *ℤ n) size_is)
    c.requires.not_zero x.reduced)

pub returns-then-divisor-lt0-clause-value : goal.returns-then-divisor-lt0-clause-value
returns-then-divisor-lt0-clause-value c =
    let at = (goal.at.returns-then-divisor-lt0-clause-value c).After-of-parts in
    let x = c.args.self in
    let result_fits : FitsSigned w128 c.in_ok-denominator.denominator = search rules in
    let x_fits = FitsSigned-in_range x.denominator x.denominator_in_range in
    let size_fits : FitsSigned w128 c.abs.result = search rules in
    let first_fits : FitsSigned w128 c.of-parts.result.first = search rules in
    let second_fits : FitsSigned w128 c.of-parts.result.second = search rules in
    let size_is = simp to_z-of_z at c.abs.ensures.value in
    let is = simp to_z-of_z at c.in_ok-denominator.ensures.1 in
    let zn = simp to_z-of_z at c.from_lowest_terms-quotient.ensures.numerator in
    let zd = simp to_z-of_z at c.from_lowest_terms-quotient.ensures.denominator in
    let below : c.args.divisor <ℤ pos 0 = omega (arith, ints) in
    quotient_is_negative x.numerator x.denominator c.args.divisor _ _ _ _ (first at) (second at) below
    (c.negated.ensures.numerator ∙ ap neg_ℤ zn)
    (c.negated.ensures.denominator ∙ zd ∙ is ∙ ap (λ (n : ℤ). x.denominator *ℤ n) size_is)

pub returns-else-divisor-lt0-clause-value : goal.returns-else-divisor-lt0-clause-value
returns-else-divisor-lt0-clause-value c =
    let at = (goal.at.returns-else-divisor-lt0-clause-value c).After-of-parts in
    let x = c.args.self in
    let result_fits : FitsSigned w128 c.in_ok-denominator.denominator = search rules in
    let x_fits = FitsSigned-in_range x.denominator x.denominator_in_range in
    let size_fits : FitsSigned w128 c.abs.result = search rules in
    let first_fits : FitsSigned w128 c.of-parts.result.first = search rules in
    let second_fits : FitsSigned w128 c.of-parts.result.second = search rules in
    let size_is = simp to_z-of_z at c.abs.ensures.value in
    let is = simp to_z-of_z at c.in_ok-denominator.ensures.1 in
    let zn = simp to_z-of_z at c.from_lowest_terms-quotient.ensures.numerator in
    let zd = simp to_z-of_z at c.from_lowest_terms-quotient.ensures.denominator in
    let not_zero = c.requires.not_zero in
    let above : pos 0 <ℤ c.args.divisor = omega (arith, ints) in
    quotient_is x.numerator x.denominator c.args.divisor _ _ _ _ (first at) (second at) above zn
    (zd ∙ is ∙ ap (λ (n : ℤ). x.denominator *ℤ n) size_is)

pub returns-then-divisor-lt0-clause-fits : goal.returns-then-divisor-lt0-clause-fits
returns-then-divisor-lt0-clause-fits c =
    let at = (goal.at.returns-then-divisor-lt0-clause-fits c).After-of-parts in
    let x = c.args.self in
    let x_fits = FitsSigned-in_range x.denominator x.denominator_in_range in
    let size_fits : FitsSigned w128 c.abs.result = search rules in
    let second_fits : FitsSigned w128 c.of-parts.result.second = search rules in
    let size_is = simp to_z-of_z at c.abs.ensures.value in
    let fits = simp to_z-of_z at c.in_ok-denominator.ensures.0 in
    quotient_in_range x c.args.divisor _ _ (second at) size_is fits

pub returns-else-divisor-lt0-clause-fits : goal.returns-else-divisor-lt0-clause-fits
returns-else-divisor-lt0-clause-fits c =
    let at = (goal.at.returns-else-divisor-lt0-clause-fits c).After-of-parts in
    let x = c.args.self in
    let x_fits = FitsSigned-in_range x.denominator x.denominator_in_range in
    let size_fits : FitsSigned w128 c.abs.result = search rules in
    let second_fits : FitsSigned w128 c.of-parts.result.second = search rules in
    let size_is = simp to_z-of_z at c.abs.ensures.value in
    let fits = simp to_z-of_z at c.in_ok-denominator.ensures.0 in
    quotient_in_range x c.args.divisor _ _ (second at) size_is fits

pub returns-in_err-denominator-clause-value : goal.returns-in_err-denominator-clause-value
returns-in_err-denominator-clause-value c = IfOk-from_err _ _ c.from_residual.ensures.0

pub returns-in_err-denominator-clause-fits : goal.returns-in_err-denominator-clause-fits
returns-in_err-denominator-clause-fits c = IfOk-from_err _ _ c.from_residual.ensures.0

pub returns-in_err-denominator-clause-overflow : goal.returns-in_err-denominator-clause-overflow
returns-in_err-denominator-clause-overflow c =
    let at = (goal.at.returns-in_err-denominator-clause-overflow c).After-of-parts in
    let x = c.args.self in
    let x_fits = FitsSigned-in_range x.denominator x.denominator_in_range in
    let size_fits : FitsSigned w128 c.abs.result = search rules in
    let second_fits : FitsSigned w128 c.of-parts.result.second = search rules in
    let size_is = simp to_z-of_z at c.abs.ensures.value in
    let out = simp to_z-of_z at c.in_err-denominator.ensures in
    OnErr-always c.from_residual.result _ (quotient-overflows x c.args.divisor _ _ (second at) size_is out)
