use Rattle.std.proofs.Common.{◌∙◌}
use Rattle.edit_line.proofs.FactorLoops.{beside-later}
use Rattle.edit_line.proofs.line_fields.factor_beside.Goals as goal

pub loop-place-preserved : goal.loop-place-preserved
loop-place-preserved c = beside-later c.args.fields.now c.args.factors.now c.args.field c.loop-place.place c.requires c.loop-place-test.true
    c.if-number-field.false ∙ c.loop-place.invariant
