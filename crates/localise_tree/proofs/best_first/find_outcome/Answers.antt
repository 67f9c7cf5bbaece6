use Rattle.std.proofs.Common.{◌≡◌, Option, IfSome, arith, subst}
use Rattle.std.specs.Arc.{arc_value}
use Rattle.std.proofs.lemmas.Result.{IfOk-from_err}
use Rattle.bound_cert.specs.declared.outcome.Outcome.{Outcome}
use Rattle.edit_paths.specs.Cases.{case_of}
use Rattle.edit_paths.specs.Outcomes.{outcome_of}
use Rattle.localise_tree.specs.KeptFields.{KeepsChange}
use Rattle.localise_tree.proofs.best_first.find_outcome.Goals as goal

pub search-requires-clause-served : goal.search-requires-clause-served
search-requires-clause-served g c = c.find_unchanged.ensures.serves _ c.requires.served

pub returns-in-Some-clause-exact : goal.returns-in-Some-clause-exact
returns-in-Some-clause-exact g c =
    let task = c.args.task.now in
    subst (λ (told : Option Outcome). IfSome told (λ o. o ≡ outcome_of (case_of task.survey.now (arc_value task.edits.now) task.row.now) task.budget))
    c.in-Some.is c.in_ok-outcome.ensures.exact

pub returns-in-Some-clause-kept : goal.returns-in-Some-clause-kept
returns-in-Some-clause-kept g c =
    let task = c.args.task.now in
    subst (λ (told : Option Outcome). IfSome told (KeepsChange (g.S.Systems.keeps c.find_unchanged.new.source)
    (case_of task.survey.now (arc_value task.edits.now) task.row.now))) c.in-Some.is c.in_ok-outcome.ensures.kept

pub returns-clause-exact : goal.returns-clause-exact
returns-clause-exact g c = c.search.ensures.exact

pub returns-clause-kept : goal.returns-clause-kept
returns-clause-kept g c = c.search.ensures.kept

pub returns-in_err-outcome-clause-serves : goal.returns-in_err-outcome-clause-serves
returns-in_err-outcome-clause-serves g c = c.find_unchanged.ensures.serves

pub returns-in_err-outcome-clause-keeps : goal.returns-in_err-outcome-clause-keeps
returns-in_err-outcome-clause-keeps g c = c.find_unchanged.ensures.keeps

pub returns-in_err-outcome-clause-counts : goal.returns-in_err-outcome-clause-counts
returns-in_err-outcome-clause-counts g c = c.find_unchanged.ensures.counts

pub returns-in-Some-clause-serves : goal.returns-in-Some-clause-serves
returns-in-Some-clause-serves g c = c.find_unchanged.ensures.serves

pub returns-in-Some-clause-keeps : goal.returns-in-Some-clause-keeps
returns-in-Some-clause-keeps g c = c.find_unchanged.ensures.keeps

pub returns-in-Some-clause-counts : goal.returns-in-Some-clause-counts
returns-in-Some-clause-counts g c = c.find_unchanged.ensures.counts

pub returns-in_err-wholes-clause-serves : goal.returns-in_err-wholes-clause-serves
returns-in_err-wholes-clause-serves g c = c.find_unchanged.ensures.serves

pub returns-in_err-wholes-clause-keeps : goal.returns-in_err-wholes-clause-keeps
returns-in_err-wholes-clause-keeps g c = c.find_unchanged.ensures.keeps

pub returns-in_err-wholes-clause-counts : goal.returns-in_err-wholes-clause-counts
returns-in_err-wholes-clause-counts g c = c.find_unchanged.ensures.counts

pub returns-clause-serves : goal.returns-clause-serves
returns-clause-serves g c e h = c.search.ensures.serves e (c.find_unchanged.ensures.serves e h)

pub returns-clause-keeps : goal.returns-clause-keeps
returns-clause-keeps g c f h = c.search.ensures.keeps f (c.find_unchanged.ensures.keeps f h)

pub returns-clause-counts : goal.returns-clause-counts
returns-clause-counts g c = omega (arith, c.find_unchanged.ensures.counts, c.search.ensures.counts)

pub returns-in_err-outcome-clause-exact : goal.returns-in_err-outcome-clause-exact
returns-in_err-outcome-clause-exact g c = IfOk-from_err _ _ c.from_residual.ensures.0

pub returns-in_err-outcome-clause-kept : goal.returns-in_err-outcome-clause-kept
returns-in_err-outcome-clause-kept g c = IfOk-from_err _ _ c.from_residual.ensures.0

pub returns-in_err-wholes-clause-exact : goal.returns-in_err-wholes-clause-exact
returns-in_err-wholes-clause-exact g c = IfOk-from_err _ _ c.from_residual-in_err-wholes.ensures.0

pub returns-in_err-wholes-clause-kept : goal.returns-in_err-wholes-clause-kept
returns-in_err-wholes-clause-kept g c = IfOk-from_err _ _ c.from_residual-in_err-wholes.ensures.0
