use Rattle.std.proofs.Common.{◌≡◌, ◌+◌, ◌≤◌, ◌++◌, length}
use Rattle.claims_bench.specs.inner.Workers.{passes_of, seats_of}
use Rattle.claims_bench.proofs.tally.workers_of.Given as goal

abbrev pub invariant-loop-seat : goal.invariant-loop-seat
invariant-loop-seat l =
    (seats_of l.workers.items ++ l.seat-iterator.rest.items ≡ l.fn.seats.items)
    × (passes_of l.workers.items ++ l.rest.rest.items ≡ l.fn.passes.items)
    × (length l.seat-iterator.rest.items ≡ length l.rest.rest.items)
    × (length l.workers.items + length l.seat-iterator.rest.items ≤ l.workers.cap)
