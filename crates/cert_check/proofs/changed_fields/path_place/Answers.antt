use Rattle.std.proofs.Common.{◌≡◌, ◌∙◌, List, ap, arith, length}
use Rattle.edit_model.specs.Corrections.{path_order}
use Rattle.edit_model.specs.declared.field.Field.{Field}
use Rattle.edit_model.proofs.OrderLaws.{order-length}
use Rattle.cert_check.proofs.ChangeLaws.{place-ended, place-more}
use Rattle.cert_check.proofs.changed_fields.path_place.Goals as goal

pub loop-place-preserved : goal.loop-place-preserved
loop-place-preserved c =
    let fields = c.args.survey.now.fields in
    place-more (path_order fields) c.loop-place.place c.args.field _ c.loop-place.invariant
    (omega (arith, c.loop-place-test.true, order-length fields, ap (λ (fs : List Field). length fs) c.fields-count.ensures.fields))
    (λ same. c.if-path_field-field.false (c.path_field.ensures.field ∙ same))

pub returns : goal.returns
returns c =
    let fields = c.args.survey.now.fields in
    let count = ap (λ (fs : List Field). length fs) c.fields-count.ensures.fields in
    let same : length c.fields-count.result.now ≡ c.loop-place.place = omega (arith, c.loop-place-test.false, c.loop-place.auto.place-end) in
    same ∙ place-ended (path_order fields) c.loop-place.place c.args.field _ c.loop-place.invariant
    (omega (arith, c.loop-place-test.false, order-length fields, count))
