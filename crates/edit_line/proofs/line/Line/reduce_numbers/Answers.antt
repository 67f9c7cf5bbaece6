use Rattle.std.proofs.Common.{FitsSigned, rules, ◌∙◌}
use Rattle.std.proofs.lemmas.Int.{to_z-of_z}
use mir.Syntax.{w128}
use Rattle.edit_line.proofs.DivisionLaws.{reduced-is}
use Rattle.edit_line.proofs.line.Line.reduce_numbers.Goals as goal

pub returns-clause-line : goal.returns-clause-line
returns-clause-line c =
    let constant_fits : FitsSigned w128 c.constant.result = search rules in
    let divisor_fits : FitsSigned w128 c.divisor_of-divisor.result = search rules in
    reduced-is c.args.self.now c.divide_by.new.self c.factors.result.now _ _ c.divisor_of-divisor.result c.factors.ensures.factors
    (to_z-of_z w128 c.constant.result constant_fits ∙ c.constant.ensures.constant) c.divisor_of-divisor.ensures.value
    (to_z-of_z w128 c.divisor_of-divisor.result divisor_fits) c.divide_by.ensures
