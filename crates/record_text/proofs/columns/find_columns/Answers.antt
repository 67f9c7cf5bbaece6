use Rattle.std.proofs.Common.{◌∙◌, add-one, arith}
use Rattle.record_text.proofs.ColumnLaws.{field_passed, stand_more}
use Rattle.record_text.proofs.Refusals.{no_other_fault, no_value}
use Rattle.std.proofs.lemmas.Grind.{common_steps}
use Rattle.record_text.proofs.columns.find_columns.Goals as goal

pub loop-number-preserved : goal.loop-number-preserved
loop-number-preserved c =
    let fields = c.args.fields.now in
    let header = c.args.header.now in
    let i = c.loop-number.number in
    let f = c.index-fields-number in
    let one = rw c.as_bytes.ensures.bytes at c.in_ok-column.ensures.column in
    let stand = stand_more fields header c.loop-number.columns.items i f.result c.in_ok-column.column c.loop-number-test.true f.is c.loop-number.invariant.0 one
    in
    let passed = field_passed fields header i i f.result c.in_ok-column.column c.loop-number-test.true f.is one in
    (rw (add-one, c.in_ok-push.ensures.items) stand, rw add-one (c.loop-number.invariant.1 ∙ passed))

pub returns-in_err-columns-clause-columns : goal.returns-in_err-columns-clause-columns
returns-in_err-columns-clause-columns c = no_value c.from_residual.result _ _ c.from_residual.ensures.1

pub returns-in_err-column-clause-columns : goal.returns-in_err-column-clause-columns
returns-in_err-column-clause-columns c = no_value c.from_residual-in_err-column.result _ _ c.from_residual-in_err-column.ensures.1

pub returns-in_err-push-clause-columns : goal.returns-in_err-push-clause-columns
returns-in_err-push-clause-columns c = no_value c.from_residual-in_err-push.result _ _ c.from_residual-in_err-push.ensures.1

pub returns-in_err-columns-clause-fault : goal.returns-in_err-columns-clause-fault
returns-in_err-columns-clause-fault c = no_other_fault c.from_residual.result _ _ c.from_residual.ensures.1

pub returns-in_err-push-clause-fault : goal.returns-in_err-push-clause-fault
returns-in_err-push-clause-fault c = no_other_fault c.from_residual-in_err-push.result _ _ c.from_residual-in_err-push.ensures.1

pub returns-in_err-column-clause-fault : goal.returns-in_err-column-clause-fault
returns-in_err-column-clause-fault c = grind (arith, common_steps)

pub returns-clause-columns : goal.returns-clause-columns
returns-clause-columns c = grind (arith, common_steps)
