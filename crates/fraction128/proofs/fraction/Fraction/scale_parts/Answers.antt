use Rattle.std.proofs.Common.{◌≡◌, ℤ, ◌*ℤ◌, [], ◌∷◌, int_div, sym, subst, ◌∙◌, FitsSigned, rules}
use Rattle.std.proofs.lemmas.Int.{to_z-of_z}
use Rattle.std.proofs.lemmas.Result.{IfOk-from_err}
use mir.Syntax.{w128}
use Rattle.fraction128.specs.Divisor.{int_gcd}
use Rattle.fraction128.specs.Range.{InRange, AllInRange}
use Rattle.fraction128.proofs.RangeLaws.{FitsSigned-in_range, OnErr-always}
use Rattle.fraction128.proofs.CofactorLaws.{second-above, second-in_range}
use Rattle.fraction128.proofs.FormulaLaws.{product-coprime, product_is}
use Rattle.fraction128.proofs.fraction.Fraction.scale_parts.Goals as goal
use Rattle.fraction128.proofs.fraction.Fraction.scale_parts.Goals.{After-of-parts}

-- the numbers of k times a over b are in range where those that the parts m and p give are
product-fits : (a k b m p : ℤ) → m ≡ int_div k (int_gcd k b) → p ≡ int_div b (int_gcd k b) → InRange (a *ℤ m) → InRange p
    → AllInRange ((a *ℤ int_div k (int_gcd k b)) ∷ int_div b (int_gcd k b) ∷ [])
product-fits a k b m p e f product part = (subst (λ n. InRange (a *ℤ n)) e product, (subst InRange f part, tt))

-- and not where the product is not
product-overflows : (a k b m : ℤ) → m ≡ int_div k (int_gcd k b) → ¬ InRange (a *ℤ m)
    → ¬ AllInRange ((a *ℤ int_div k (int_gcd k b)) ∷ int_div b (int_gcd k b) ∷ [])
product-overflows a k b m e out all = out (subst (λ n. InRange (a *ℤ n)) (sym e) all.0)

module _ (c : After-of-parts) where
  first : c.of-parts.result.first ≡ int_div c.args.factor (int_gcd c.args.factor c.args.self.denominator)
  first =
      let factor_fits = c.ranges.factor in
      let denominator_fits = FitsSigned-in_range c.args.self.denominator c.args.self.denominator_in_range in
      simp to_z-of_z at c.of-parts.ensures.first

  second : c.of-parts.result.second ≡ int_div c.args.self.denominator (int_gcd c.args.factor c.args.self.denominator)
  second =
      let factor_fits = c.ranges.factor in
      let denominator_fits = FitsSigned-in_range c.args.self.denominator c.args.self.denominator_in_range in
      simp to_z-of_z at c.of-parts.ensures.second

pub from_lowest_terms-requires-clause-positive : goal.from_lowest_terms-requires-clause-positive
from_lowest_terms-requires-clause-positive c =
    let at = (goal.at.from_lowest_terms-requires-clause-positive c).After-of-parts in
    let second_fits : FitsSigned w128 c.of-parts.result.second = search rules in
    simp to_z-of_z (second-above _ _ _ _ (first at) (second at) c.args.self.positive)

pub from_lowest_terms-requires-clause-coprime : goal.from_lowest_terms-requires-clause-coprime
from_lowest_terms-requires-clause-coprime c =
    let at = (goal.at.from_lowest_terms-requires-clause-coprime c).After-of-parts in
    let x = c.args.self in
    let a_fits = FitsSigned-in_range x.numerator x.numerator_in_range in
    let first_fits : FitsSigned w128 c.of-parts.result.first = search rules in
    let second_fits : FitsSigned w128 c.of-parts.result.second = search rules in
    let numerator_fits : FitsSigned w128 c.in_ok-numerator.numerator = search rules in
    let numerator_is = simp to_z-of_z at c.in_ok-numerator.ensures.1 in
    simp to_z-of_z (product-coprime x.numerator x.denominator c.args.factor _ _ _ (first at) (second at) numerator_is x.positive x.reduced)

pub returns-clause-value : goal.returns-clause-value
returns-clause-value c =
    let at = (goal.at.returns-clause-value c).After-of-parts in
    let a_fits = FitsSigned-in_range c.args.self.numerator c.args.self.numerator_in_range in
    let first_fits : FitsSigned w128 c.of-parts.result.first = search rules in
    let second_fits : FitsSigned w128 c.of-parts.result.second = search rules in
    let numerator_fits : FitsSigned w128 c.in_ok-numerator.numerator = search rules in
    let numerator_is = simp to_z-of_z at c.in_ok-numerator.ensures.1 in
    let zn = simp to_z-of_z at c.from_lowest_terms.ensures.numerator in
    let zd = simp to_z-of_z at c.from_lowest_terms.ensures.denominator in
    product_is _ _ _ _ _ _ _ (first at) (second at) (zn ∙ numerator_is) zd

pub returns-in_err-numerator-clause-value : goal.returns-in_err-numerator-clause-value
returns-in_err-numerator-clause-value c = IfOk-from_err _ _ c.from_residual.ensures.0

pub returns-in_err-numerator-clause-fits : goal.returns-in_err-numerator-clause-fits
returns-in_err-numerator-clause-fits c = IfOk-from_err _ _ c.from_residual.ensures.0

pub returns-in_err-numerator-clause-overflow : goal.returns-in_err-numerator-clause-overflow
returns-in_err-numerator-clause-overflow c =
    let at = (goal.at.returns-in_err-numerator-clause-overflow c).After-of-parts in
    let x = c.args.self in
    let a_fits = FitsSigned-in_range x.numerator x.numerator_in_range in
    let first_fits : FitsSigned w128 c.of-parts.result.first = search rules in
    let out = simp to_z-of_z at c.in_err-numerator.ensures in
    OnErr-always c.from_residual.result _ (product-overflows x.numerator c.args.factor x.denominator _ (first at) out)

pub returns-clause-fits : goal.returns-clause-fits
returns-clause-fits c =
    let at = (goal.at.returns-clause-fits c).After-of-parts in
    let x = c.args.self in
    let a_fits = FitsSigned-in_range x.numerator x.numerator_in_range in
    let first_fits : FitsSigned w128 c.of-parts.result.first = search rules in
    let fits = simp to_z-of_z at c.in_ok-numerator.ensures.0 in
    let part = second-in_range _ _ _ _ (first at) (second at) x.denominator_in_range in
    product-fits x.numerator c.args.factor x.denominator _ _ (first at) (second at) fits part
