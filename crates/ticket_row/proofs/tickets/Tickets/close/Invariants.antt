use Rattle.std.proofs.Common.{◌≡◌, [], All}
use Rattle.ticket_row.proofs.Taking.{IsOf, HasTaken}
use Rattle.ticket_row.proofs.tickets.Tickets.close.Given as goal

abbrev pub invariant-loop-seat : goal.invariant-loop-seat
invariant-loop-seat l =
    All (IsOf l.fn.self.row) l.seat-iterator.rest.items
    × (l.taker.table_id ≡ l.fn.self.row.name)
    × (l.taker.me.1 ≡ [])
    × HasTaken l.fn.seats.items l.seat-iterator.rest.items l.taker.me.0
