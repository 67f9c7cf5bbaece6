use Rattle.std.proofs.Common.{◌≡◌, ◌-◌, length}
use Rattle.ticket_row.proofs.tests.draw_all.Given as goal

abbrev pub invariant-loop-number : goal.invariant-loop-number
invariant-loop-number l = l.seat.row ≡ l.fn.seat.row

abbrev pub decreases-loop-number : goal.decreases-loop-number
decreases-loop-number l = 3 - length l.seat.drawn
