use Rattle.std.proofs.Common.{◌≢◌, pos, of_z, FitsSigned, rules, refl, ap}
use Rattle.std.proofs.lemmas.Int.{to_z-of_z}
use mir.Syntax.{w128}
use Rattle.fraction128.specs.Formulas.{ratio_of}
use Rattle.edit_model.specs.Rows.{value_of}
use Rattle.edit_line.proofs.SumSteps.{next-answered, next-overflow}
use Rattle.edit_line.proofs.sum.with_field.Goals as goal

pub returns-in-Ok-clause-sum : goal.returns-in-Ok-clause-sum
returns-in-Ok-clause-sum c =
    let fits : FitsSigned w128 c.args.factor = search rules in
    let apart : c.args.factor ≢ pos 0 = λ is. c.if-factor-eq0.false (ap (of_z w128) is) in
    next-answered c.args.factor _ (value_of c.args.row.now c.args.field) c.value.result.now (ratio_of c.args.sum) c.with_value.result apart
    (to_z-of_z w128 c.args.factor fits) c.value.ensures c.with_value.ensures c.in-Ok.next c.in-Ok.is

pub returns-in-Err-clause-overflow : goal.returns-in-Err-clause-overflow
returns-in-Err-clause-overflow c =
    let fits : FitsSigned w128 c.args.factor = search rules in
    let apart : c.args.factor ≢ pos 0 = λ is. c.if-factor-eq0.false (ap (of_z w128) is) in (
      refl,
      next-overflow c.args.factor _ (value_of c.args.row.now c.args.field) c.value.result.now (ratio_of c.args.sum) c.with_value.result apart
          (to_z-of_z w128 c.args.factor fits) c.value.ensures c.with_value.ensures _ c.in-Err.is,
    )
