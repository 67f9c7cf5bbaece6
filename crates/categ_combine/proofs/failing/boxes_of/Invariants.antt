use Rattle.std.proofs.Common.{◌≡◌, drop, []}
use Rattle.categ_combine.specs.FailingBoxes.{failing_from}
use Rattle.categ_combine.proofs.failing.boxes_of.Given as goal

abbrev pub invariant-loop-i : goal.invariant-loop-i
invariant-loop-i l = failing_from l.i (drop l.i l.lines) l.row l.kept.items ≡ failing_from 0 l.lines l.row []
