use Rattle.edit_model.proofs.FieldNumbers.{numbers_more, numbers_all}
use Rattle.edit_model.proofs.index.field_numbers.Goals as goal

pub loop-i-preserved : goal.loop-i-preserved
loop-i-preserved c =
    numbers_more c.args.numerical c.is_numerical.result c.args.fields.now c.loop-i.i c.index-fields-i.result c.loop-i.numbers.items c.push_if.new.numbers.items
    _
    c.loop-i-test.true c.index-fields-i.is c.is_numerical.ensures c.in_ok-push_if.ensures c.loop-i.invariant

pub returns : goal.returns
returns c = numbers_all c.args.numerical c.args.fields.now c.loop-i.i c.loop-i.numbers.items _ c.loop-i-test.false c.loop-i.invariant
