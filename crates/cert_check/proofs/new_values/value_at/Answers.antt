use Rattle.std.proofs.Common.{arith}
use Rattle.edit_model.proofs.RowLaws.{row-length}
use Rattle.cert_check.proofs.ValueLaws.{kept-value, other-only, other-value}
use Rattle.cert_check.proofs.new_values.value_at.Goals as goal

pub value-read-requires : goal.value-read-requires
value-read-requires c = omega (arith, c.requires.field, row-length c.args.checking.now.survey.now.fields c.args.row.now c.requires.row)

pub returns-then-changes-clause-value : goal.returns-then-changes-clause-value
returns-then-changes-clause-value c =
    let given = rw (c.fields.ensures.fields, c.get.ensures, c.value-read.ensures) at c.other_value.ensures.value in
    other-value c.args.checking.now c.args.row.now c.args.path.now c.args.texts.now c.args.field c.index-fields-field.result c.requires.field
    (rw c.changes.ensures at c.if-changes.true) c.other_value.result given

pub returns-then-changes-clause-only : goal.returns-then-changes-clause-only
returns-then-changes-clause-only c =
    let only = rw (c.fields.ensures.fields, c.get.ensures, c.value-read.ensures) at c.other_value.ensures.only in
    other-only c.args.checking.now c.args.row.now c.args.path.now c.args.texts.now c.args.field c.index-fields-field.result c.requires.field
    (rw c.changes.ensures at c.if-changes.true) c.other_value.result only

pub returns-else-changes-clause-value : goal.returns-else-changes-clause-value
returns-else-changes-clause-value c =
    rw c.value-read.ensures (kept-value c.args.checking.now c.args.row.now c.args.path.now c.args.texts.now c.args.field c.index-fields-field.result
    c.requires.field (rw c.changes.ensures at c.if-changes.false))
