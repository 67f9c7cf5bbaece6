use Rattle.std.proofs.Common.{◌≡◌, ◌<◌, rules, List, true, length, ap, ◌∙◌}
use Rattle.std.specs.Arc.{arc_value}
use Rattle.std.proofs.lemmas.Result.{IfOk-from_err}
use Rattle.edit_model.specs.declared.field.Field.{Field}
use Rattle.edit_paths.specs.Cases.{case_of}
use Rattle.localise_tree.specs.inner.AllKept.{all_kept, holds_throughout}
use Rattle.localise_tree.proofs.HoldingLaws.{kept-open}
use Rattle.localise_tree.proofs.KeptWalk.{keeps-start, kept-outcome}
use Rattle.localise_tree.proofs.all_kept.find_unchanged.Goals as goal

pub returns-clause-exact : goal.returns-clause-exact
returns-clause-exact g c =
    let enough : length c.args.task.now.survey.now.fields < c.args.task.now.budget = search rules in
    let holds : holds_throughout (case_of c.args.task.now.survey.now (arc_value c.args.task.now.edits.now) c.args.task.now.row.now) ≡ true = search rules in
    c.in_ok-unchanged_outcome.ensures ∙ ap (λ (fs : List Field). all_kept (length fs)) c.fields-2.ensures.fields
    ∙ kept-outcome (case_of c.args.task.now.survey.now (arc_value c.args.task.now.edits.now) c.args.task.now.row.now) c.args.task.now.budget enough
    (kept-open (case_of c.args.task.now.survey.now (arc_value c.args.task.now.edits.now) c.args.task.now.row.now) c.case_known.ensures.case holds)

pub returns-clause-kept : goal.returns-clause-kept
returns-clause-kept g c =
    keeps-start (g.S.Systems.keeps c.ask_for_start.new.source)
    (case_of c.args.task.now.survey.now (arc_value c.args.task.now.edits.now) c.args.task.now.row.now) (length c.fields-2.result.now)
    c.in_ok-unchanged_outcome.field-0
    c.in_ok-unchanged_outcome.ensures c.in_ok-ask_for_start.ensures.kept

pub returns-in_err-ask_for_start-clause-serves : goal.returns-in_err-ask_for_start-clause-serves
returns-in_err-ask_for_start-clause-serves g c = c.ask_for_start.ensures.serves

pub returns-in_err-ask_for_start-clause-keeps : goal.returns-in_err-ask_for_start-clause-keeps
returns-in_err-ask_for_start-clause-keeps g c = c.ask_for_start.ensures.keeps

pub returns-in_err-ask_for_start-clause-counts : goal.returns-in_err-ask_for_start-clause-counts
returns-in_err-ask_for_start-clause-counts g c = c.ask_for_start.ensures.counts

pub returns-in_err-unchanged_outcome-clause-serves : goal.returns-in_err-unchanged_outcome-clause-serves
returns-in_err-unchanged_outcome-clause-serves g c = c.ask_for_start.ensures.serves

pub returns-in_err-unchanged_outcome-clause-keeps : goal.returns-in_err-unchanged_outcome-clause-keeps
returns-in_err-unchanged_outcome-clause-keeps g c = c.ask_for_start.ensures.keeps

pub returns-in_err-unchanged_outcome-clause-counts : goal.returns-in_err-unchanged_outcome-clause-counts
returns-in_err-unchanged_outcome-clause-counts g c = c.ask_for_start.ensures.counts

pub returns-clause-serves : goal.returns-clause-serves
returns-clause-serves g c = c.ask_for_start.ensures.serves

pub returns-clause-keeps : goal.returns-clause-keeps
returns-clause-keeps g c = c.ask_for_start.ensures.keeps

pub returns-clause-counts : goal.returns-clause-counts
returns-clause-counts g c = c.ask_for_start.ensures.counts

pub returns-in_err-ask_for_start-clause-exact : goal.returns-in_err-ask_for_start-clause-exact
returns-in_err-ask_for_start-clause-exact g c = IfOk-from_err _ _ c.from_residual.ensures.0

pub returns-in_err-ask_for_start-clause-kept : goal.returns-in_err-ask_for_start-clause-kept
returns-in_err-ask_for_start-clause-kept g c = IfOk-from_err _ _ c.from_residual.ensures.0

pub returns-in_err-unchanged_outcome-clause-exact : goal.returns-in_err-unchanged_outcome-clause-exact
returns-in_err-unchanged_outcome-clause-exact g c = IfOk-from_err _ _ c.from_residual-in_err-unchanged_outcome.ensures.0

pub returns-in_err-unchanged_outcome-clause-kept : goal.returns-in_err-unchanged_outcome-clause-kept
returns-in_err-unchanged_outcome-clause-kept g c = IfOk-from_err _ _ c.from_residual-in_err-unchanged_outcome.ensures.0
