use Rattle.std.proofs.lemmas.Result.{IfOk-from_err}
use Rattle.record_pieces.proofs.decks.Decks.classes_read.Goals as goal

pub returns-in_err-classes : goal.returns-in_err-classes
returns-in_err-classes c = IfOk-from_err _ _ c.from_residual.ensures.0

pub returns-in_err-push : goal.returns-in_err-push
returns-in_err-push c = IfOk-from_err _ _ c.from_residual-in_err-push.ensures.0
