use Rattle.std.proofs.Common.{◌≡◌, int_div, FitsSigned, rules}
use Rattle.std.proofs.lemmas.Int.{to_z-of_z}
use Rattle.std.proofs.lemmas.Result.{IfOk-from_err}
use mir.Syntax.{w128}
use Rattle.fraction128.specs.Divisor.{int_gcd}
use Rattle.fraction128.proofs.RangeLaws.{FitsSigned-in_range, OnErr-always}
use Rattle.fraction128.proofs.CofactorLaws.{first-above}
use Rattle.fraction128.proofs.FormulaLaws.{sum_is, sum_numerator_overflow, sum_denominator_overflow}
use Rattle.fraction128.proofs.Signs.{above-*}
use Rattle.fraction128.proofs.fraction.Fraction.add_parts.Goals as goal
use Rattle.fraction128.proofs.fraction.Fraction.add_parts.Goals.{After-of-parts}

module _ (c : After-of-parts) where
  first : c.of-parts.result.first ≡ int_div c.args.self.denominator (int_gcd c.args.self.denominator c.args.other.denominator)
  first =
      let x_fits = FitsSigned-in_range c.args.self.denominator c.args.self.denominator_in_range in
      let y_fits = FitsSigned-in_range c.args.other.denominator c.args.other.denominator_in_range in
      simp to_z-of_z at c.of-parts.ensures.first

  second : c.of-parts.result.second ≡ int_div c.args.other.denominator (int_gcd c.args.self.denominator c.args.other.denominator)
  second =
      let x_fits = FitsSigned-in_range c.args.self.denominator c.args.self.denominator_in_range in
      let y_fits = FitsSigned-in_range c.args.other.denominator c.args.other.denominator_in_range in
      simp to_z-of_z at c.of-parts.ensures.second

pub returns-in_err-numerator-clause-value : goal.returns-in_err-numerator-clause-value
returns-in_err-numerator-clause-value c = IfOk-from_err _ _ c.from_residual.ensures.0

pub returns-in_err-numerator-clause-fits : goal.returns-in_err-numerator-clause-fits
returns-in_err-numerator-clause-fits c = IfOk-from_err _ _ c.from_residual.ensures.0

pub returns-in_err-denominator-clause-value : goal.returns-in_err-denominator-clause-value
returns-in_err-denominator-clause-value c = IfOk-from_err _ _ c.from_residual-in_err-denominator.ensures.0

pub returns-in_err-denominator-clause-fits : goal.returns-in_err-denominator-clause-fits
returns-in_err-denominator-clause-fits c = IfOk-from_err _ _ c.from_residual-in_err-denominator.ensures.0

pub returns-in_err-numerator-clause-overflow : goal.returns-in_err-numerator-clause-overflow
returns-in_err-numerator-clause-overflow c =
    let at = (goal.at.returns-in_err-numerator-clause-overflow c).After-of-parts in
    let a_fits = FitsSigned-in_range c.args.self.numerator c.args.self.numerator_in_range in
    let c_fits = FitsSigned-in_range c.args.other.numerator c.args.other.numerator_in_range in
    let first_fits : FitsSigned w128 c.of-parts.result.first = search rules in
    let second_fits : FitsSigned w128 c.of-parts.result.second = search rules in
    let overflow = simp to_z-of_z at c.in_err-numerator.ensures.overflow in
    OnErr-always c.from_residual.result _ (sum_numerator_overflow _ _ _ _ _ _ (first at) (second at) overflow)

pub returns-in_err-denominator-clause-overflow : goal.returns-in_err-denominator-clause-overflow
returns-in_err-denominator-clause-overflow c =
    let at = (goal.at.returns-in_err-denominator-clause-overflow c).After-of-parts in
    let d_fits = FitsSigned-in_range c.args.other.denominator c.args.other.denominator_in_range in
    let first_fits : FitsSigned w128 c.of-parts.result.first = search rules in
    let overflow = simp to_z-of_z at c.in_err-denominator.ensures in
    OnErr-always c.from_residual-in_err-denominator.result _ (sum_denominator_overflow _ _ _ _ _ (first at) overflow)

pub reduced-requires-clause-positive : goal.reduced-requires-clause-positive
reduced-requires-clause-positive c =
    let at = (goal.at.reduced-requires-clause-positive c).After-of-parts in
    let d_fits = FitsSigned-in_range c.args.other.denominator c.args.other.denominator_in_range in
    let first_fits : FitsSigned w128 c.of-parts.result.first = search rules in
    let denominator_fits : FitsSigned w128 c.in_ok-denominator.denominator = search rules in
    let is = simp to_z-of_z at c.in_ok-denominator.ensures.1 in
    simp to_z-of_z (rw is (above-* _ _ (first-above _ _ _ _ (first at) (second at) c.args.self.positive) c.args.other.positive))

pub returns-clause-value : goal.returns-clause-value
returns-clause-value c =
    let at = (goal.at.returns-clause-value c).After-of-parts in
    let a_fits = FitsSigned-in_range c.args.self.numerator c.args.self.numerator_in_range in
    let c_fits = FitsSigned-in_range c.args.other.numerator c.args.other.numerator_in_range in
    let d_fits = FitsSigned-in_range c.args.other.denominator c.args.other.denominator_in_range in
    let first_fits : FitsSigned w128 c.of-parts.result.first = search rules in
    let second_fits : FitsSigned w128 c.of-parts.result.second = search rules in
    let numerator_fits : FitsSigned w128 c.in_ok-numerator.numerator = search rules in
    let denominator_fits : FitsSigned w128 c.in_ok-denominator.denominator = search rules in
    let numerator_is = simp to_z-of_z at c.in_ok-numerator.ensures.value in
    let denominator_is = simp to_z-of_z at c.in_ok-denominator.ensures.1 in
    let same = simp to_z-of_z at c.reduced.ensures.same in
    sum_is _ _ _ _ _ _ _ _ _ _ (first at) (second at) numerator_is denominator_is same
