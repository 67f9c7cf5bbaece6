use Rattle.std.proofs.Common.{add-one}
use Rattle.record_text.proofs.ValueLaws.{values_more}
use Rattle.record_text.proofs.Refusals.{no_value}
use Rattle.record_text.proofs.reading.read_values.Goals as goal

pub loop-number-preserved : goal.loop-number-preserved
loop-number-preserved c =
    let f = c.index-fields-number in
    let value = rw c.get-text.ensures at c.value_of_text.ensures in
    let more = values_more c.args.fields.now c.args.columns.now c.args.texts.now c.loop-number.values.items c.loop-number.number f.result c.value_of_text.result
    c.loop-number-test.true c.requires.columns f.is c.loop-number.invariant value in
    rw (add-one, c.in_ok-push.ensures.items) more

pub returns-in_err-values : goal.returns-in_err-values
returns-in_err-values c = no_value c.from_residual.result _ _ c.from_residual.ensures.1

pub returns-in_err-push : goal.returns-in_err-push
returns-in_err-push c = no_value c.from_residual-in_err-push.result _ _ c.from_residual-in_err-push.ensures.1
