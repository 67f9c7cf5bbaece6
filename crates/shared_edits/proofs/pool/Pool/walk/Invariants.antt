use Rattle.std.proofs.Common.{◌-◌, ◌≤◌, length, map}
use Rattle.shared_edits.specs.Pools.{IsReaderOf}
use Rattle.shared_edits.specs.Walks.{HasWalkedOn}
use Rattle.shared_edits.specs.inner.Entries.{IsBehind, walked_of}
use Rattle.shared_edits.proofs.pool.Pool.walk.Given as goal

abbrev pub invariant-loop-reader : goal.invariant-loop-reader
invariant-loop-reader l =
    HasWalkedOn l.fn.reader (map walked_of l.reader-inside.walked)
    × IsReaderOf l.self (map walked_of l.reader-inside.walked)
    × (length l.reader-inside.walked ≤ 4160)
    × IsBehind l.reader-inside.next (map walked_of l.reader-inside.walked)

abbrev pub decreases-loop-reader : goal.decreases-loop-reader
decreases-loop-reader l = 4160 - l.reader-inside.next
