use Rattle.std.proofs.Common.{ap, to_z, arith}
use Rattle.std.proofs.lemmas.Int.{to_z-of_z}
use mir.Syntax.{w128}
use Rattle.edit_line.proofs.DivisionLaws.{divisor-stops}
use Rattle.std.proofs.lemmas.Grind.{common_steps}
use Rattle.edit_line.proofs.division.gcd_of.Goals as goal

pub returns-then-divisor-eq1 : goal.returns-then-divisor-eq1
returns-then-divisor-eq1 c =
    let constant_fits = c.ranges.constant in
    let before = simp to_z-of_z at c.loop-factor.invariant in
    divisor-stops c.args.constant (to_z w128 c.loop-factor.divisor-bits) c.args.factors.now c.loop-factor.factor-index before.value
    (ap (λ n. to_z w128 n) c.if-divisor-eq1.true)

pub loop-factor-preserved : goal.loop-factor-preserved
loop-factor-preserved c = grind (arith, common_steps)

pub returns : goal.returns
returns c = grind (arith, common_steps)
