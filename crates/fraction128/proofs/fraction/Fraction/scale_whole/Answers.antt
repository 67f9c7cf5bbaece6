use Rattle.std.proofs.lemmas.Int.{to_z-of_z}
use Rattle.fraction128.proofs.RangeLaws.{FitsSigned-in_range, OnErr-always}
use Rattle.fraction128.proofs.WholeLaws.{whole_product-fits, whole_product-overflows}
use Rattle.fraction128.proofs.fraction.Fraction.scale_whole.Goals as goal

pub returns-in_err-numerator-clause-overflow : goal.returns-in_err-numerator-clause-overflow
returns-in_err-numerator-clause-overflow c =
    let a_fits = FitsSigned-in_range c.args.self.numerator c.args.self.numerator_in_range in
    let factor_fits = c.ranges.factor in
    let overflow = simp to_z-of_z at c.in_err-numerator.ensures in
    OnErr-always c.from_residual.result _ (whole_product-overflows _ _ _ c.requires.whole overflow)

pub returns-clause-fits : goal.returns-clause-fits
returns-clause-fits c =
    let x = c.args.self in
    let a_fits = FitsSigned-in_range x.numerator x.numerator_in_range in
    let factor_fits = c.ranges.factor in
    let fits = simp to_z-of_z at c.in_ok-numerator.ensures in
    whole_product-fits x.numerator c.args.factor x.denominator c.requires.whole fits.0 x.denominator_in_range
