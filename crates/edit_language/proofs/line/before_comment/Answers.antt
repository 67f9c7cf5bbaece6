use Rattle.std.proofs.Common.{sym, ◌==◌}
use Rattle.edit_language.proofs.LineLaws.{before_at, before_none}
use Rattle.edit_language.proofs.line.before_comment.Goals as goal

pub returns-in-Some : goal.returns-in-Some
returns-in-Some c = before_at (λ b. b == 35) c.args.line.now c.in-Some.place (sym c.in-Some.ensures)

pub returns-in-None : goal.returns-in-None
returns-in-None c = before_none (λ b. b == 35) c.args.line.now (sym c.in-None.ensures)
