use Rattle.std.proofs.Common.{ap, sym, ◌∙◌, arith}
use Rattle.std.specs.List.{sum_by}
use Rattle.edit_model.specs.Corrections.{path_order}
use Rattle.edit_model.specs.Words.{weight_at}
use Rattle.edit_model.proofs.OrderLaws.{order-length}
use Rattle.bound_cert.proofs.Letters.{changes-beside}
use Rattle.bound_cert.proofs.PathLoops.{weight-all, weight-more}
use Rattle.bound_cert.proofs.path_fields.path_weight.Goals as goal

pub loop-place-preserved : goal.loop-place-preserved
loop-place-preserved c =
    let fields = c.args.survey.now.fields in (
      weight-more (path_order fields) c.args.path.now c.loop-place.place (omega (arith, order-length fields, c.requires, c.loop-place-test.true))
          c.loop-place-test.true
          (weight_at fields) c.loop-place.weight c.changed_weight-weight.result _ c.changed_weight-weight.ensures.weight c.loop-place.invariant.0,
      omega (arith, c.loop-place.invariant.1, c.changed_weight-weight.ensures.few),
    )

pub returns : goal.returns
returns c =
    let fields = c.args.survey.now.fields in
    weight-all (path_order fields) c.args.path.now c.loop-place.place (weight_at fields) c.loop-place.weight _ (omega (arith, c.loop-place-test.false))
    c.loop-place.invariant.0
    ∙ sym (ap (sum_by (weight_at fields)) (changes-beside fields c.args.path.now))
