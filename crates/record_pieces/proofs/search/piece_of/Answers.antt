use Rattle.std.proofs.lemmas.Result.{IfOk-from_err}
use Rattle.record_pieces.proofs.search.piece_of.Goals as goal

pub returns-in_err-outcome-clause-serves : goal.returns-in_err-outcome-clause-serves
returns-in_err-outcome-clause-serves g c = c.localise.ensures.serves

pub returns-in_err-outcome-clause-keeps : goal.returns-in_err-outcome-clause-keeps
returns-in_err-outcome-clause-keeps g c = c.localise.ensures.keeps

pub returns-in_err-class-clause-serves : goal.returns-in_err-class-clause-serves
returns-in_err-class-clause-serves g c = c.localise.ensures.serves

pub returns-in_err-class-clause-keeps : goal.returns-in_err-class-clause-keeps
returns-in_err-class-clause-keeps g c = c.localise.ensures.keeps

pub returns-clause-serves : goal.returns-clause-serves
returns-clause-serves g c = c.localise.ensures.serves

pub returns-clause-keeps : goal.returns-clause-keeps
returns-clause-keeps g c = c.localise.ensures.keeps

pub returns-in_err-outcome-clause-row : goal.returns-in_err-outcome-clause-row
returns-in_err-outcome-clause-row g c = IfOk-from_err _ _ c.from_residual.ensures.0

pub returns-in_err-outcome-clause-piece : goal.returns-in_err-outcome-clause-piece
returns-in_err-outcome-clause-piece g c = IfOk-from_err _ _ c.from_residual.ensures.0

pub returns-in_err-outcome-clause-kept : goal.returns-in_err-outcome-clause-kept
returns-in_err-outcome-clause-kept g c = IfOk-from_err _ _ c.from_residual.ensures.0

pub returns-in_err-class-clause-row : goal.returns-in_err-class-clause-row
returns-in_err-class-clause-row g c = IfOk-from_err _ _ c.from_residual-in_err-class.ensures.0

pub returns-in_err-class-clause-piece : goal.returns-in_err-class-clause-piece
returns-in_err-class-clause-piece g c = IfOk-from_err _ _ c.from_residual-in_err-class.ensures.0

pub returns-in_err-class-clause-kept : goal.returns-in_err-class-clause-kept
returns-in_err-class-clause-kept g c = IfOk-from_err _ _ c.from_residual-in_err-class.ensures.0
