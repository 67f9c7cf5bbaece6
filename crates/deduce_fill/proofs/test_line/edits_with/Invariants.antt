use Rattle.std.proofs.Common.{◌≡◌, take}
use Rattle.deduce_fill.proofs.test_line.edits_with.Given as goal

abbrev pub invariant-loop-number : goal.invariant-loop-number
invariant-loop-number l = l.lines.items ≡ take l.number-index l.number-items
