use Rattle.std.proofs.Common.{◌+◌, ◌<◌, List, ap, arith, length, subst, sym}
use Rattle.edit_model.specs.Corrections.{path_order}
use Rattle.edit_model.specs.declared.field.Field.{Field}
use Rattle.edit_model.proofs.OrderLaws.{order-length}
use Rattle.back_subst.proofs.PathSetLaws.{IsReadTo, read-all, read-changed, read-kept}
use Rattle.back_subst.proofs.path_set.changed_set.Goals as goal
use Rattle.back_subst.proofs.path_set.changed_set.Goals.{else-path-place, then-path-place}

pub loop-place-preserved : goal.loop-place-preserved
loop-place-preserved c =
    let fields = c.args.survey.now.fields in
    let place = c.loop-place.place in
    let here : place < length (path_order fields) = omega
    (arith, c.loop-place-test.true, order-length fields, ap (λ (fs : List Field). length fs) c.fields.ensures.fields) in
    elim c.if-path-place.branch [
      | then-path-place w ↦
          subst (λ set. IsReadTo fields c.args.path.now (place + 1) set) (sym w.changed-is)
          (read-changed fields c.args.path.now c.loop-place.changed place here c.loop-place.invariant w.path_field.result w.with-changed.result
          w.path_field.ensures.field w.if-path-place.true w.with-changed.ensures.set)
      | else-path-place w ↦ subst (λ set. IsReadTo fields c.args.path.now (place + 1) set) (sym w.changed-is)
          (read-kept fields c.args.path.now c.loop-place.changed place here c.loop-place.invariant w.if-path-place.false)
    ]

pub returns : goal.returns
returns c = record {
  path =
      read-all c.args.survey.now.fields c.args.path.now c.loop-place.changed c.loop-place.place c.requires.whole
      (omega (arith, c.loop-place-test.false, ap (λ (fs : List Field). length fs) c.fields.ensures.fields)) c.loop-place.invariant;
}
