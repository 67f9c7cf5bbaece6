use Rattle.std.proofs.Common.{◌≡◌, ◌<◌, All, Err, None, ap, inr, refl, subst, sym, ◌∙◌}
use Rattle.edit_model.specs.FieldSets.{set_of}
use Rattle.back_subst.specs.Gifts.{CanGive}
use Rattle.back_subst.specs.GiveFaults.{StopsThere}
use Rattle.back_subst.specs.declared.gift.GiveFault.TheVariants.{Bound, Test}
use Rattle.prefix_walk.specs.PathWalks.{walk_along}
use Rattle.prefix_walk.specs.declared.walk_end.WalkEnd.TheVariants as walk
use Rattle.prefix_walk.proofs.WalkEnds.{open-within}
use Rattle.deduce_fill.specs.inner.Tasks.{task_case, task_edits}
use Rattle.deduce_fill.proofs.OpenEnds.{bad-below, can-give}
use Rattle.deduce_fill.proofs.filling.fill_open.Goals as goal

pub set_of-bad-requires : goal.set_of-bad-requires
set_of-bad-requires g c =
    subst (All (λ f. f < 64)) (sym c.requires.fields) (bad-below c.args.task.now.survey.now.fields c.args.task.now.row.now c.requires.task.few_fields)

pub give-requires-clause-path : goal.give-requires-clause-path
give-requires-clause-path g c =
    let task = c.args.task.now in
    subst (λ n. CanGive task.survey.now (task_edits task) task.row.now n) (sym (c.set_of-bad.ensures ∙ ap set_of c.requires.fields))
    (can-give task.survey.now (task_edits task) task.row.now task.budget c.args.work c.requires.task.case c.requires.task.budget
    (subst (λ path. walk_along (task_case task) path task.budget 0 ≡ walk.Open c.args.work) c.requires.task.path c.requires.walked))

pub test_fields-requires-clause-within : goal.test_fields-requires-clause-within
test_fields-requires-clause-within g c = open-within (task_case c.args.task.now) c.args.task.now.budget 0 c.args.work c.args.task.now.path.now c.requires.walked

pub returns-in-Err-Bound-clause-exact : goal.returns-in-Err-Bound-clause-exact
returns-in-Err-Bound-clause-exact g c =
    let task = c.args.task.now in
    inr (
      Bound c.in-Err-Bound.field-0-0 c.in-Err-Bound.field-0-1,
      subst (λ n. StopsThere task.survey.now (task_edits task) task.row.now n None (Bound c.in-Err-Bound.field-0-0 c.in-Err-Bound.field-0-1))
          (c.set_of-bad.ensures ∙ ap set_of c.requires.fields)
          (c.in-Err-Bound.ensures.bound c.in-Err-Bound.field-0-0 c.in-Err-Bound.field-0-1 (ap Err c.in-Err-Bound.field-0-is)),
      refl,
    )

pub returns-in-Err-Test-clause-exact : goal.returns-in-Err-Test-clause-exact
returns-in-Err-Test-clause-exact g c =
    let task = c.args.task.now in
    inr (
      Test c.in-Err-Test.field-0-0,
      subst (λ n. StopsThere task.survey.now (task_edits task) task.row.now n None (Test c.in-Err-Test.field-0-0))
          (c.set_of-bad.ensures ∙ ap set_of c.requires.fields)
          (c.in-Err-Test.ensures.test c.in-Err-Test.field-0-0 (ap Err c.in-Err-Test.field-0-is)),
      refl,
    )
