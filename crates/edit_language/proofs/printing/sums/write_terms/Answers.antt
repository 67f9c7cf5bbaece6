use Rattle.std.proofs.lemmas.Result.{IfOk-from_err}
use Rattle.edit_language.proofs.printing.sums.write_terms.Goals as goal

pub returns-in_err-write_term : goal.returns-in_err-write_term
returns-in_err-write_term c = IfOk-from_err _ _ c.from_residual.ensures.0
