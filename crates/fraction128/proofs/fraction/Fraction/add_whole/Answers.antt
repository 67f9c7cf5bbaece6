use Rattle.std.proofs.Common.{◌≡◌, ℤ, pos, ◌+ℤ◌, ◌*ℤ◌, FitsSigned, sym, subst, ◌∙◌, arith}
use Rattle.std.proofs.lemmas.Int.{to_z-of_z}
use Rattle.std.proofs.lemmas.Result.{IfOk-from_err}
use mir.Syntax.{w128}
use Rattle.fraction128.proofs.RangeLaws.{FitsSigned-in_range, OnErr-always}
use Rattle.fraction128.proofs.Whole.{parts, ring, same_dif}
use Rattle.fraction128.proofs.WholeLaws.{whole_sum-fits, whole_sum-overflows}
use Rattle.fraction128.proofs.fraction.Fraction.add_whole.Goals as goal

-- the sum of a and c, each over 1
whole_sum-is : (a b c d zn zd : ℤ) → b ≡ pos 1 → d ≡ pos 1 → zn ≡ a +ℤ c → zd ≡ pos 1 → zn *ℤ (b *ℤ d) ≡ (a *ℤ d +ℤ c *ℤ b) *ℤ zd
whole_sum-is a b c d zn zd e f zn_is zd_is = rw (e, f, zn_is, zd_is, parts a, parts c) (simp ring (same_dif _ _ _ _ (omega arith)))

pub returns-in_err-numerator-clause-value : goal.returns-in_err-numerator-clause-value
returns-in_err-numerator-clause-value c = IfOk-from_err _ _ c.from_residual.ensures.0

pub returns-in_err-numerator-clause-fits : goal.returns-in_err-numerator-clause-fits
returns-in_err-numerator-clause-fits c = IfOk-from_err _ _ c.from_residual.ensures.0

pub returns-in_err-numerator-clause-overflow : goal.returns-in_err-numerator-clause-overflow
returns-in_err-numerator-clause-overflow c =
    let a_fits = FitsSigned-in_range c.args.self.numerator c.args.self.numerator_in_range in
    let c_fits = FitsSigned-in_range c.args.other.numerator c.args.other.numerator_in_range in
    let overflow = simp to_z-of_z at c.in_err-numerator.ensures in
    OnErr-always c.from_residual.result _ (whole_sum-overflows _ _ _ _ c.requires.first c.requires.second overflow)

pub returns-clause-value : goal.returns-clause-value
returns-clause-value c =
    let x = c.args.self in
    let y = c.args.other in
    let a_fits = FitsSigned-in_range x.numerator x.numerator_in_range in
    let c_fits = FitsSigned-in_range y.numerator y.numerator_in_range in
    let sum = simp to_z-of_z at c.in_ok-numerator.ensures in
    let sum_fits : FitsSigned w128 c.in_ok-numerator.numerator = subst (FitsSigned w128) (sym sum.1) (FitsSigned-in_range _ sum.0) in
    let is = simp to_z-of_z at c.whole.ensures.numerator in
    let numerator_is = is ∙ sum.1 in
    whole_sum-is x.numerator x.denominator y.numerator y.denominator _ _ c.requires.first c.requires.second numerator_is
    c.whole.ensures.denominator

pub returns-clause-fits : goal.returns-clause-fits
returns-clause-fits c =
    let x = c.args.self in
    let y = c.args.other in
    let a_fits = FitsSigned-in_range x.numerator x.numerator_in_range in
    let c_fits = FitsSigned-in_range y.numerator y.numerator_in_range in
    let fits = simp to_z-of_z at c.in_ok-numerator.ensures in
    whole_sum-fits x.numerator x.denominator y.numerator y.denominator c.requires.first c.requires.second x.numerator_in_range y.numerator_in_range fits.0
    x.denominator_in_range
