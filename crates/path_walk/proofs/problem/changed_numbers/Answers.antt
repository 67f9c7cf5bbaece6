use Rattle.std.proofs.Common.{arith}
use Rattle.edit_model.specs.Corrections.{is_numerical}
use Rattle.edit_model.proofs.OrderLaws.{own-number}
use Rattle.path_walk.specs.Problems.{case_in}
use Rattle.path_walk.proofs.NextFields.{changed-set}
use Rattle.path_walk.proofs.ProblemLaws.{changed-chosen, changed-more, changed-numerical, whole}
use Rattle.path_walk.proofs.problem.changed_numbers.Goals as goal

pub with_changed-set-requires : goal.with_changed-set-requires
with_changed-set-requires c =
    let below = own-number is_numerical c.args.problem.now.survey.now.fields c.numbers-field-items.result.now c.loop-place.place
    c.numbers-field-items.ensures c.loop-place-test.true in
    omega (arith, below, c.requires.few)

pub loop-place-preserved : goal.loop-place-preserved
loop-place-preserved c =
    changed-more (case_in c.args.problem.now) c.numbers-field-items.result.now c.numbers-field-items.ensures c.args.letters.now c.loop-place.place
    c.loop-place.set c.with_changed-set.result c.is_changed.result c.loop-place-test.true
    c.is_changed.ensures c.loop-place.invariant c.with_changed-set.ensures

pub returns-clause-chosen : goal.returns-clause-chosen
returns-clause-chosen c =
    changed-chosen (case_in c.args.problem.now) c.numbers-field-items.result.now c.numbers-field-items.ensures c.args.letters.now c.loop-place.place
    c.loop-place.set c.loop-place-test.false c.loop-place.invariant

pub returns-clause-numerical : goal.returns-clause-numerical
returns-clause-numerical c =
    changed-numerical (case_in c.args.problem.now) c.numbers-field-items.result.now c.numbers-field-items.ensures c.args.letters.now c.loop-place.place
    c.loop-place.set c.loop-place-test.false c.loop-place.invariant

pub returns-clause-set : goal.returns-clause-set
returns-clause-set c =
    changed-set (case_in c.args.problem.now) c.args.letters.now c.loop-place.set
    (whole (case_in c.args.problem.now) c.numbers-field-items.result.now c.numbers-field-items.ensures c.args.letters.now c.loop-place.place
    c.loop-place.set c.loop-place-test.false c.loop-place.invariant)
