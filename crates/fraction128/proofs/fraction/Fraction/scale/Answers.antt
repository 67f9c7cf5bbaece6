use Rattle.std.proofs.Common.{FitsSigned, rules}
use Rattle.std.proofs.lemmas.Int.{to_z-of_z}
use mir.Syntax.{w128}
use Rattle.fraction128.proofs.fraction.Fraction.scale.Goals as goal

pub returns-then-is_whole-clause-value : goal.returns-then-is_whole-clause-value
returns-then-is_whole-clause-value c =
    let factor_fits : FitsSigned w128 c.args.factor = search rules in
    simp to_z-of_z at c.scale_whole.ensures.value

pub returns-then-is_whole-clause-fits : goal.returns-then-is_whole-clause-fits
returns-then-is_whole-clause-fits c =
    let factor_fits : FitsSigned w128 c.args.factor = search rules in
    simp to_z-of_z at c.scale_whole.ensures.fits

pub returns-then-is_whole-clause-overflow : goal.returns-then-is_whole-clause-overflow
returns-then-is_whole-clause-overflow c =
    let factor_fits : FitsSigned w128 c.args.factor = search rules in
    simp to_z-of_z at c.scale_whole.ensures.overflow

pub returns-else-is_whole-clause-value : goal.returns-else-is_whole-clause-value
returns-else-is_whole-clause-value c =
    let factor_fits : FitsSigned w128 c.args.factor = search rules in
    simp to_z-of_z at c.scale_parts.ensures.value

pub returns-else-is_whole-clause-fits : goal.returns-else-is_whole-clause-fits
returns-else-is_whole-clause-fits c =
    let factor_fits : FitsSigned w128 c.args.factor = search rules in
    simp to_z-of_z at c.scale_parts.ensures.fits

pub returns-else-is_whole-clause-overflow : goal.returns-else-is_whole-clause-overflow
returns-else-is_whole-clause-overflow c =
    let factor_fits : FitsSigned w128 c.args.factor = search rules in
    simp to_z-of_z at c.scale_parts.ensures.overflow
