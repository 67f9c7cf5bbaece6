use Rattle.std.proofs.Common.{◌≡◌, map, take}
use lib.IntN.{neg_ℤ}
use Rattle.edit_line.proofs.negation.negatives.Given as goal

abbrev pub invariant-loop-number : goal.invariant-loop-number
invariant-loop-number l = l.others.items ≡ map neg_ℤ (take l.number-index l.numbers)
