use Rattle.std.proofs.Common.{◌<◌, List, ap, arith, length, subst, sym, ℕ}
use Rattle.std.specs.Prelude.{All}
use Rattle.edit_model.specs.declared.field.Field.{Field}
use Rattle.edit_report.proofs.ChangedLaws.{changed-within, list-all, list-more}
use Rattle.edit_report.proofs.changed.changed_fields.Goals as goal

pub loop-place-preserved : goal.loop-place-preserved
loop-place-preserved c =
    list-more c.args.survey.now.fields c.args.path.now c.loop-place.changed.items c.push_if.new.fields.items c.loop-place.place c.path_field.result
    c.is_changed.result
    (omega (arith, c.loop-place-test.true, c.loop-place.auto.place-end, ap (λ (fs : List Field). length fs) c.fields-place-end.ensures.fields))
    c.path_field.ensures.field c.is_changed.ensures c.in_ok-push_if.ensures c.loop-place.invariant

pub returns-clause-fields : goal.returns-clause-fields
returns-clause-fields c =
    list-all c.args.survey.now.fields c.args.path.now c.loop-place.changed.items c.loop-place.place
    (omega (arith, c.loop-place-test.false, c.loop-place.auto.place-end, ap (λ (fs : List Field). length fs) c.fields-place-end.ensures.fields))
    c.loop-place.invariant

pub returns-clause-within : goal.returns-clause-within
returns-clause-within c =
    subst (λ (fs : List ℕ). All (λ (f : ℕ). f < length c.args.survey.now.fields) fs)
    (sym (list-all c.args.survey.now.fields c.args.path.now c.loop-place.changed.items c.loop-place.place
    (omega (arith, c.loop-place-test.false, c.loop-place.auto.place-end, ap (λ (fs : List Field). length fs) c.fields-place-end.ensures.fields))
    c.loop-place.invariant))
    (changed-within c.args.survey.now.fields c.args.path.now)
