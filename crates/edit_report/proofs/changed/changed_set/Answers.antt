use Rattle.std.proofs.Common.{List, ap, arith, length}
use Rattle.edit_model.specs.declared.field.Field.{Field}
use Rattle.edit_report.proofs.ChangedLaws.{set-all, set-more}
use Rattle.edit_report.proofs.changed.changed_set.Goals as goal

pub loop-place-preserved : goal.loop-place-preserved
loop-place-preserved c =
    set-more c.args.survey.now.fields c.args.path.now c.loop-place.set c.with_changed-set.result c.loop-place.place c.path_field.result c.is_changed.result
    (omega (arith, c.loop-place-test.true, c.loop-place.auto.place-end, ap (λ (fs : List Field). length fs) c.fields-place-end.ensures.fields))
    c.path_field.ensures.field c.is_changed.ensures c.with_changed-set.ensures c.loop-place.invariant

pub returns : goal.returns
returns c =
    set-all c.args.survey.now.fields c.args.path.now c.loop-place.set c.loop-place.place
    (omega (arith, c.loop-place-test.false, c.loop-place.auto.place-end, ap (λ (fs : List Field). length fs) c.fields-place-end.ensures.fields)) c.requires
    c.loop-place.invariant
