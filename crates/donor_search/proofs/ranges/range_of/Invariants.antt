use Rattle.std.proofs.Common.{ℕ, ◌+◌, ◌<◌}
use Rattle.donor_search.specs.Decks.{IsWithin, mark_at}
use Rattle.donor_search.proofs.ranges.range_of.Given as goal

abbrev pub invariant-loop-j : goal.invariant-loop-j
invariant-loop-j l = (i : ℕ) → i < l.j → IsWithin l.range (mark_at l.marks l.count (l.start + i) l.field)
