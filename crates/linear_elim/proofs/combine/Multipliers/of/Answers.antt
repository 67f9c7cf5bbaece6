use Rattle.std.proofs.Common.{FitsSigned, ap, int_div, rules, ℤ, ◌∙◌}
use Rattle.std.proofs.lemmas.Int.{to_z-of_z}
use mir.Syntax.{w128}
use Rattle.fraction128.specs.Divisor.{int_gcd}
use Rattle.linear_elim.specs.Combinations.{with_sign_of}
use Rattle.fraction128.proofs.CofactorLaws.{common_divisor-above}
use Rattle.linear_elim.proofs.combine.Multipliers.of.Goals as goal

pub quotient-requires : goal.quotient-requires
quotient-requires c =
    let a_fits = c.ranges.a in
    let b_fits = c.ranges.b in
    let divisor_fits : FitsSigned w128 c.common_divisor-divisor.result = search rules in
    let value = simp to_z-of_z at c.common_divisor-divisor.ensures in
    simp to_z-of_z (common_divisor-above c.args.a c.args.b c.common_divisor-divisor.result value c.requires.second)

pub quotient-requires-2 : goal.quotient-requires-2
quotient-requires-2 c =
    let a_fits = c.ranges.a in
    let b_fits = c.ranges.b in
    let divisor_fits : FitsSigned w128 c.common_divisor-divisor.result = search rules in
    let value = simp to_z-of_z at c.common_divisor-divisor.ensures in
    simp to_z-of_z (common_divisor-above c.args.a c.args.b c.common_divisor-divisor.result value c.requires.second)

pub returns-clause-first : goal.returns-clause-first
returns-clause-first c =
    let a_fits = c.ranges.a in
    let b_fits = c.ranges.b in
    let negative_fits : FitsSigned w128 c.negative.result = search rules in
    let negative = simp to_z-of_z at c.negative.ensures.value in
    let divisor_fits : FitsSigned w128 c.common_divisor-divisor.result = search rules in
    let turned_fits : FitsSigned w128 c.with_sign_of.result = search rules in
    let quotient_fits : FitsSigned w128 c.quotient.result = search rules in
    let value = simp to_z-of_z at c.common_divisor-divisor.ensures in
    let turned = simp to_z-of_z at c.with_sign_of.ensures in
    let divided = simp to_z-of_z at c.quotient.ensures in
    simp to_z-of_z (divided ∙ (λ i. int_div (turned i) (value i)) ∙ ap (λ (z : ℤ). int_div (with_sign_of c.args.a z) (int_gcd c.args.a c.args.b)) negative)
