use Rattle.std.proofs.Common.{FitsSigned, rules}
use Rattle.std.proofs.lemmas.Int.{to_z-of_z}
use mir.Syntax.{w128}
use Rattle.fraction128.proofs.CofactorLaws.{common_divisor-above}
use Rattle.fraction128.proofs.divisor.Cofactors.of.Goals as goal

pub quotient-requires : goal.quotient-requires
quotient-requires c =
    let a_fits = c.ranges.a in
    let b_fits = c.ranges.b in
    let divisor_fits : FitsSigned w128 c.gcd-divisor.result = search rules in
    let value = simp to_z-of_z at c.gcd-divisor.ensures.value in
    simp to_z-of_z (common_divisor-above c.args.a c.args.b c.gcd-divisor.result value c.requires.not_zero)

pub quotient-requires-2 : goal.quotient-requires-2
quotient-requires-2 c =
    let a_fits = c.ranges.a in
    let b_fits = c.ranges.b in
    let divisor_fits : FitsSigned w128 c.gcd-divisor.result = search rules in
    let value = simp to_z-of_z at c.gcd-divisor.ensures.value in
    simp to_z-of_z (common_divisor-above c.args.a c.args.b c.gcd-divisor.result value c.requires.not_zero)
