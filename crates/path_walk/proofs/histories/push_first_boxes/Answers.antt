use Rattle.std.proofs.Common.{arith, refl}
use Rattle.std.specs.Arc.{arc_value}
use Rattle.std.proofs.lemmas.Result.{IfOk-from_err}
use Rattle.edit_paths.specs.declared.levels.Level.TheVariants.{Boxes}
use Rattle.path_walk.specs.Problems.{case_in}
use Rattle.path_walk.proofs.BoxTurns.{first-lists}
use Rattle.path_walk.proofs.histories.push_first_boxes.Goals as goal

pub returns-clause-boxes : goal.returns-clause-boxes
returns-clause-boxes g c =
    first-lists (case_in c.args.problem.now) c.args.before.letters.now c.args.levels.now.items c.push.new.self.items (Boxes 0 c.in_ok-boxes.boxes) 0
    (arc_value c.in_ok-boxes.boxes) c.in_ok-push.ensures.items refl refl (omega (arith, c.requires.numbers)) c.requires.history refl
    c.in_ok-boxes.ensures.boxes

pub returns-in_err-boxes-clause-boxes : goal.returns-in_err-boxes-clause-boxes
returns-in_err-boxes-clause-boxes g c = IfOk-from_err _ _ c.from_residual.ensures.0

pub returns-in_err-boxes-clause-grown : goal.returns-in_err-boxes-clause-grown
returns-in_err-boxes-clause-grown g c = IfOk-from_err _ _ c.from_residual.ensures.0

pub returns-in_err-push-clause-boxes : goal.returns-in_err-push-clause-boxes
returns-in_err-push-clause-boxes g c = IfOk-from_err _ _ c.from_residual-in_err-push.ensures.0

pub returns-in_err-push-clause-grown : goal.returns-in_err-push-clause-grown
returns-in_err-push-clause-grown g c = IfOk-from_err _ _ c.from_residual-in_err-push.ensures.0
