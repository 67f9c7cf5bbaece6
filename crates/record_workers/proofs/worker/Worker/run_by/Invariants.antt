use Rattle.std.proofs.Common.{◌-◌, length}
use Rattle.record_workers.specs.Workers.{FoundAll, HasWorked}
use Rattle.record_workers.proofs.worker.Worker.run_by.Given as goal

abbrev pub invariant-loop-row_no : goal.invariant-loop-row_no
invariant-loop-row_no g l = record {
  worked : HasWorked l.shared l.self;
  found : FoundAll l.self;
}

abbrev pub decreases-loop-row_no : goal.decreases-loop-row_no
decreases-loop-row_no g l = l.shared.tickets.row.count - length l.self.seat.drawn
