use Rattle.std.proofs.Common.{sym, ◌∙◌}
use Rattle.std.proofs.lemmas.Result.{IfOk-from_err}
use Rattle.path_walk.specs.Problems.{case_in}
use Rattle.path_walk.proofs.HistoryLaws.{boxes-first}
use Rattle.path_walk.proofs.histories.record_boxes.Goals as goal

pub returns-clause-boxes : goal.returns-clause-boxes
returns-clause-boxes g c =
    c.in_ok-new.ensures.ok ∙ c.in_ok-boxes.ensures.boxes ∙ sym (boxes-first (case_in c.args.problem.now) c.args.path.letters.now c.requires.few)

pub returns-in_err-boxes-clause-serves : goal.returns-in_err-boxes-clause-serves
returns-in_err-boxes-clause-serves g c = c.first_boxes.ensures.serves

pub returns-in_err-boxes-clause-keeps : goal.returns-in_err-boxes-clause-keeps
returns-in_err-boxes-clause-keeps g c = c.first_boxes.ensures.keeps

pub returns-in_err-boxes-clause-counts : goal.returns-in_err-boxes-clause-counts
returns-in_err-boxes-clause-counts g c = c.first_boxes.ensures.counts

pub returns-in_err-new-clause-serves : goal.returns-in_err-new-clause-serves
returns-in_err-new-clause-serves g c = c.first_boxes.ensures.serves

pub returns-in_err-new-clause-keeps : goal.returns-in_err-new-clause-keeps
returns-in_err-new-clause-keeps g c = c.first_boxes.ensures.keeps

pub returns-in_err-new-clause-counts : goal.returns-in_err-new-clause-counts
returns-in_err-new-clause-counts g c = c.first_boxes.ensures.counts

pub returns-clause-serves : goal.returns-clause-serves
returns-clause-serves g c = c.first_boxes.ensures.serves

pub returns-clause-keeps : goal.returns-clause-keeps
returns-clause-keeps g c = c.first_boxes.ensures.keeps

pub returns-clause-counts : goal.returns-clause-counts
returns-clause-counts g c = c.first_boxes.ensures.counts

pub returns-in_err-try_clone-clause-boxes : goal.returns-in_err-try_clone-clause-boxes
returns-in_err-try_clone-clause-boxes g c = IfOk-from_err _ _ c.from_residual.ensures.0

pub returns-in_err-boxes-clause-boxes : goal.returns-in_err-boxes-clause-boxes
returns-in_err-boxes-clause-boxes g c = IfOk-from_err _ _ c.from_residual-in_err-boxes.ensures.0

pub returns-in_err-new-clause-boxes : goal.returns-in_err-new-clause-boxes
returns-in_err-new-clause-boxes g c = IfOk-from_err _ _ c.from_residual-in_err-new.ensures.0
