use Rattle.std.proofs.Common.{◌≡◌, ◌-◌, length}
use Rattle.claims_bench.proofs.worker.Worker.draw_and_claim.Given as goal

abbrev pub invariant-loop-row_no : goal.invariant-loop-row_no
invariant-loop-row_no l = (l.self.seat.row ≡ l.fn.self.seat.row) × (l.self.pass.book ≡ l.fn.self.pass.book)

abbrev pub decreases-loop-row_no : goal.decreases-loop-row_no
decreases-loop-row_no l = l.tickets.row.count - length l.self.seat.drawn
