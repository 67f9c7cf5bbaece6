use Rattle.std.proofs.Common.{sym, ◌==◌}
use Rattle.edit_language.proofs.LineLaws.{after_at, before_at, place_is, place_is_none}
use Rattle.edit_language.proofs.line.first_line.Goals as goal

pub returns-in-Some-clause-line : goal.returns-in-Some-clause-line
returns-in-Some-clause-line c = before_at (λ b. b == 10) c.args.text.now c.in-Some.place (sym c.in-Some.ensures)

pub returns-in-Some-clause-rest : goal.returns-in-Some-clause-rest
returns-in-Some-clause-rest c = after_at (λ b. b == 10) c.args.text.now c.in-Some.place (sym c.in-Some.ensures)

pub returns-in-Some-clause-ended : goal.returns-in-Some-clause-ended
returns-in-Some-clause-ended c = (place_is (λ b. b == 10) c.args.text.now c.in-Some.place (sym c.in-Some.ensures)).1

pub returns-in-None-clause-none : goal.returns-in-None-clause-none
returns-in-None-clause-none c = place_is_none (λ b. b == 10) c.args.text.now (sym c.in-None.ensures)
