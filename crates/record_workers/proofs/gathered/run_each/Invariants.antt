use Rattle.std.proofs.Common.{◌≡◌, ◌+◌, length}
use Rattle.std.specs.List.{All}
use Rattle.std.specs.Prelude.{IfOk}
use Rattle.record_workers.specs.inner.Gatherings.{HasRun}
use Rattle.record_workers.proofs.gathered.run_each.Given as goal

abbrev pub invariant-loop-worker : goal.invariant-loop-worker
invariant-loop-worker g l = record {
  as_many : length l.ran.items + length l.worker-iterator.rest.items ≡ length l.fn.workers.items;
  ran : All (HasRun l.fn.shared) l.ran.items;
  left : All (λ r. IfOk r (HasRun l.fn.shared)) l.worker-iterator.rest.items;
}
