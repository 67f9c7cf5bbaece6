use Rattle.std.proofs.Common.{ℕ, ◌≡◌, ◌≤◌, ◌+◌, ◌-◌, ◌*◌, ◌<◌, length}
use Rattle.donor_search.specs.Decks.{IsWithin, block_size, mark_at, range_at}
use Rattle.donor_search.proofs.ranges.ranges_of.Given as goal

abbrev pub invariant-loop-block : goal.invariant-loop-block
invariant-loop-block l = record {
  upto : l.block * block_size ≤ l.donors;
  size : length l.ranges.items ≡ l.block * l.count;
  within : (b j f : ℕ) → b < l.block → j < block_size → f < l.count
      → IsWithin (range_at l.ranges.items (b * l.count + f)) (mark_at l.marks l.count (b * block_size + j) f);
}

abbrev pub decreases-loop-block : goal.decreases-loop-block
decreases-loop-block l = l.donors - l.block * block_size
