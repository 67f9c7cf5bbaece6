use Rattle.std.proofs.Common.{ap, sym, to_z, ◌∙◌}
use Rattle.std.proofs.lemmas.Int.{to_z-of_z}
use mir.Syntax.{w128}
use Rattle.edit_line.proofs.DivisionLaws.{quotient-one}
use Rattle.edit_line.proofs.division.quotient.Goals as goal

pub returns-then-divisor-eq1 : goal.returns-then-divisor-eq1
returns-then-divisor-eq1 c =
    let number_fits = c.ranges.number in
    simp to_z-of_z (quotient-one c.args.number c.args.divisor (sym (to_z-of_z w128 c.args.divisor c.ranges.divisor)
    ∙ ap (λ n. to_z w128 n) c.if-divisor-eq1.true))
