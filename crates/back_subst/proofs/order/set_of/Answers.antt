use Rattle.back_subst.proofs.OrderLaws.{set-more}
use Rattle.back_subst.proofs.order.set_of.Goals as goal

pub loop-field-preserved : goal.loop-field-preserved
loop-field-preserved c =
    set-more c.args.fields.now c.loop-field.field-index c.loop-field.set c.with-set.result c.loop-field-test.true c.loop-field.invariant
    c.with-set.ensures.has c.with-set.ensures.others
