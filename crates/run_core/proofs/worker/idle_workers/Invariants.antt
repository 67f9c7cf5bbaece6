use Rattle.std.proofs.Common.{◌≡◌, replicate}
use Rattle.run_core.specs.Workers.{idle}
use Rattle.run_core.proofs.worker.idle_workers.Given as goal

abbrev pub invariant-loop : goal.invariant-loop
invariant-loop l = (l.workers.items ≡ replicate l.counter idle) × (l.workers.cap ≡ l.initial.workers.cap)
