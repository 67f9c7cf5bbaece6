use Rattle.page_sections.proofs.ValueLaws.{values_more}
use Rattle.page_sections.proofs.values.push_fields.Goals as goal

pub loop-i-preserved : goal.loop-i-preserved
loop-i-preserved c =
    values_more c.args.fields.now c.args.values.now c.loop-i.i c.index-values-i.result _ c.loop-i.page c.push_field.new.page c.loop-i-test.true
    c.index-values-i.is c.loop-i.invariant c.in_ok-push_field.ensures
