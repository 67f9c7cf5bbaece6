use Rattle.std.proofs.Common.{◌∙◌}
use Rattle.edit_language.proofs.LineLaws.{return_cut, return_kept}
use Rattle.edit_language.proofs.line.without_return.Goals as goal

pub returns-in-Some : goal.returns-in-Some
returns-in-Some c = c.in-Some.ensures.cases.1 ∙ return_cut c.args.line.now c.in-Some.ensures.cases.0

pub returns-in-None : goal.returns-in-None
returns-in-None c = return_kept c.args.line.now c.in-None.ensures.cases
