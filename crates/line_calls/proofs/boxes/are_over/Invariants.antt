use Rattle.std.proofs.Common.{take}
use Rattle.edit_line.specs.Domains.{domains}
use Rattle.categ_combine.specs.BoxLists.{AreBoxesOver}
use Rattle.line_calls.proofs.boxes.are_over.Given as goal

abbrev pub invariant-loop-i : goal.invariant-loop-i
invariant-loop-i l = AreBoxesOver (domains l.shape) (take l.i l.boxes)
