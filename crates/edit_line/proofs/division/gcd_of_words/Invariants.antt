use Rattle.std.proofs.Common.{ℕ}
use Rattle.std.specs.Int.{IsGcd}
use Rattle.edit_line.proofs.division.gcd_of_words.Given as goal

abbrev pub invariant-loop-remainder : goal.invariant-loop-remainder
invariant-loop-remainder l = (g : ℕ) → IsGcd l.divisor l.remainder g → IsGcd l.fn.a l.fn.b g

abbrev pub decreases-loop-remainder : goal.decreases-loop-remainder
decreases-loop-remainder l = l.remainder
