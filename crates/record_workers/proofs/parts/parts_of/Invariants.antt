use Rattle.std.proofs.Common.{◌≡◌, ◌++◌}
use Rattle.record_workers.specs.inner.Gatherings.{passes_of, pieces_of, seats_of}
use Rattle.record_workers.proofs.parts.parts_of.Given as goal

abbrev pub invariant-loop-worker : goal.invariant-loop-worker
invariant-loop-worker l = record {
  seats : l.parts.seats.items ++ seats_of l.worker-iterator.rest.items ≡ seats_of l.fn.workers.items;
  passes : l.parts.passes.items ++ passes_of l.worker-iterator.rest.items ≡ passes_of l.fn.workers.items;
  pieces : l.parts.pieces.items ++ pieces_of l.worker-iterator.rest.items ≡ pieces_of l.fn.workers.items;
}
