use Rattle.std.proofs.Common.{◌≡◌, ◌+◌, ◌≤◌, ◌++◌, length}
use Rattle.claims_bench.specs.inner.Workers.{passes_of, seats_of}
use Rattle.claims_bench.proofs.tally.seats_and_passes.Given as goal

abbrev pub invariant-loop-worker : goal.invariant-loop-worker
invariant-loop-worker l =
    (l.seats.items ++ seats_of l.worker-iterator.rest.items ≡ seats_of l.fn.workers.items)
    × (l.passes.items ++ passes_of l.worker-iterator.rest.items ≡ passes_of l.fn.workers.items)
    × (length l.seats.items + length l.worker-iterator.rest.items ≤ l.seats.cap)
    × (length l.passes.items + length l.worker-iterator.rest.items ≤ l.passes.cap)
