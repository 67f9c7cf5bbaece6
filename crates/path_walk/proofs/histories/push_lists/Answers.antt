use Rattle.std.proofs.lemmas.Result.{IfOk-from_err}
use Rattle.path_walk.proofs.histories.push_lists.Goals as goal

pub returns-in_err-push_lines-clause-serves : goal.returns-in_err-push_lines-clause-serves
returns-in_err-push_lines-clause-serves g c = c.push_lines.ensures.serves

pub returns-in_err-push_lines-clause-keeps : goal.returns-in_err-push_lines-clause-keeps
returns-in_err-push_lines-clause-keeps g c = c.push_lines.ensures.keeps

pub returns-in_err-push_lines-clause-counts : goal.returns-in_err-push_lines-clause-counts
returns-in_err-push_lines-clause-counts g c = c.push_lines.ensures.counts

pub returns-then-letters-number_count-clause-serves : goal.returns-then-letters-number_count-clause-serves
returns-then-letters-number_count-clause-serves g c = c.push_lines.ensures.serves

pub returns-then-letters-number_count-clause-keeps : goal.returns-then-letters-number_count-clause-keeps
returns-then-letters-number_count-clause-keeps g c = c.push_lines.ensures.keeps

pub returns-then-letters-number_count-clause-counts : goal.returns-then-letters-number_count-clause-counts
returns-then-letters-number_count-clause-counts g c = c.push_lines.ensures.counts

pub returns-in_err-push_first_boxes-clause-serves : goal.returns-in_err-push_first_boxes-clause-serves
returns-in_err-push_first_boxes-clause-serves g c = c.push_first_boxes.ensures.serves

pub returns-in_err-push_first_boxes-clause-keeps : goal.returns-in_err-push_first_boxes-clause-keeps
returns-in_err-push_first_boxes-clause-keeps g c = c.push_first_boxes.ensures.keeps

pub returns-in_err-push_first_boxes-clause-counts : goal.returns-in_err-push_first_boxes-clause-counts
returns-in_err-push_first_boxes-clause-counts g c = c.push_first_boxes.ensures.counts

pub returns-in_err-push_lines-clause-lists : goal.returns-in_err-push_lines-clause-lists
returns-in_err-push_lines-clause-lists g c = IfOk-from_err _ _ c.from_residual.ensures.0

pub returns-in_err-push_lines-clause-grown : goal.returns-in_err-push_lines-clause-grown
returns-in_err-push_lines-clause-grown g c = IfOk-from_err _ _ c.from_residual.ensures.0

pub returns-in_err-push_first_boxes-clause-lists : goal.returns-in_err-push_first_boxes-clause-lists
returns-in_err-push_first_boxes-clause-lists g c = IfOk-from_err _ _ c.from_residual-in_err-push_first_boxes.ensures.0

pub returns-in_err-push_first_boxes-clause-grown : goal.returns-in_err-push_first_boxes-clause-grown
returns-in_err-push_first_boxes-clause-grown g c = IfOk-from_err _ _ c.from_residual-in_err-push_first_boxes.ensures.0

pub returns-in_err-push_boxes-clause-lists : goal.returns-in_err-push_boxes-clause-lists
returns-in_err-push_boxes-clause-lists g c = IfOk-from_err _ _ c.from_residual-in_err-push_boxes.ensures.0

pub returns-in_err-push_boxes-clause-grown : goal.returns-in_err-push_boxes-clause-grown
returns-in_err-push_boxes-clause-grown g c = IfOk-from_err _ _ c.from_residual-in_err-push_boxes.ensures.0
