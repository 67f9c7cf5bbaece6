use Rattle.std.proofs.Common.{rules}
use Rattle.back_subst.proofs.LineSteps.{bound-answered, no-bound}
use Rattle.back_subst.proofs.line_bounds.bound_at.Goals as goal

pub returns-in-Ok : goal.returns-in-Ok
returns-in-Ok c =
    bound-answered c.args.line.now c.args.row.now c.args.factor _ c.in-Ok.rest c.divide.result (search rules) c.requires.not_zero c.in-Ok.ensures.value
    c.divide.ensures.value c.divide.ensures.fits c.divide.ensures.overflow

pub returns-in-Err : goal.returns-in-Err
returns-in-Err c = no-bound c.args.line.now c.args.row.now c.args.factor _ c.in-Err.ensures.overflow
