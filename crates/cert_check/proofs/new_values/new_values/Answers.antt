use Rattle.std.proofs.Common.{◌<◌, add-one, ap, arith, length, List}
use Rattle.edit_model.proofs.RowLaws.{row-length}
use Rattle.edit_model.specs.declared.field.Field.{Field}
use Rattle.bound_cert.specs.Paths.{changes}
use Rattle.record_text.specs.Sheets.{text_at}
use Rattle.cert_check.proofs.ValueLoop.{begun-all, begun-more, begun-stuck}
use Rattle.cert_check.proofs.new_values.new_values.Goals as goal

pub returns-in-None-clause-only : goal.returns-in-None-clause-only
returns-in-None-clause-only c =
    let fields = c.args.checking.now.survey.now.fields in
    let below : c.loop-field.field < length fields = omega (arith, c.loop-field-test.true, ap (λ (fs : List Field). length fs) c.fields-count.ensures.fields) in
    begun-stuck (changes fields c.args.path.now) (text_at c.args.checking.now.columns.now c.args.texts.now) fields c.args.row.now c.loop-field.field
    c.loop-field.values.items (row-length fields c.args.row.now c.requires.row) c.loop-field.invariant below
    (λ w value. cc (c.in-None.is, c.value_at.ensures.only w value))

pub loop-field-preserved : goal.loop-field-preserved
loop-field-preserved c =
    let fields = c.args.checking.now.survey.now.fields in
    let below : c.loop-field.field < length fields = omega (arith, c.loop-field-test.true, ap (λ (fs : List Field). length fs) c.fields-count.ensures.fields) in
    rw (add-one, c.in_ok-push-in-Some.ensures.items)
    (begun-more (changes fields c.args.path.now) (text_at c.args.checking.now.columns.now c.args.texts.now) fields c.args.row.now c.loop-field.field
    c.loop-field.values.items (row-length fields c.args.row.now c.requires.row) c.loop-field.invariant
    c.in-Some.value below c.in-Some.ensures.value c.in-Some.ensures.only)

pub returns-clause-values : goal.returns-clause-values
returns-clause-values c =
    let fields = c.args.checking.now.survey.now.fields in
    (begun-all (changes fields c.args.path.now) (text_at c.args.checking.now.columns.now c.args.texts.now) fields c.args.row.now c.loop-field.field
    c.loop-field.values.items (row-length fields c.args.row.now c.requires.row) c.loop-field.invariant
    (omega (arith, c.loop-field-test.false, ap (λ (fs : List Field). length fs) c.fields-count.ensures.fields))).0

pub returns-clause-only : goal.returns-clause-only
returns-clause-only c =
    let fields = c.args.checking.now.survey.now.fields in
    (begun-all (changes fields c.args.path.now) (text_at c.args.checking.now.columns.now c.args.texts.now) fields c.args.row.now c.loop-field.field
    c.loop-field.values.items (row-length fields c.args.row.now c.requires.row) c.loop-field.invariant
    (omega (arith, c.loop-field-test.false, ap (λ (fs : List Field). length fs) c.fields-count.ensures.fields))).1
