use Rattle.std.proofs.Common.{ℕ, ◌≡◌, ◌+◌, ◌<◌, length}
use Rattle.donor_search.specs.Decks.{IsWithin, block_size, mark_at, range_at}
use Rattle.donor_search.proofs.ranges.push_ranges.Given as goal

abbrev pub invariant-loop-field : goal.invariant-loop-field
invariant-loop-field l = record {
  size : length l.ranges.items ≡ length l.initial.ranges.items + l.field;
  kept : (i : ℕ) → i < length l.initial.ranges.items → range_at l.ranges.items i ≡ range_at l.initial.ranges.items i;
  within : (j f : ℕ) → j < block_size → f < l.field
      → IsWithin (range_at l.ranges.items (length l.initial.ranges.items + f)) (mark_at l.marks l.count (l.start + j) f);
}
