use Rattle.std.proofs.Common.{◌≡◌, true}
use Rattle.categ_combine.specs.Apart.{LieApart}
use Rattle.line_calls.proofs.boxes.changed_told.Given as goal

abbrev pub invariant-loop-change : goal.invariant-loop-change
invariant-loop-change l = l.boxes.are_apart ≡ true → LieApart l.boxes.list.items
