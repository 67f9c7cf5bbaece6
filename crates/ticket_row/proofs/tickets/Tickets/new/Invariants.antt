use Rattle.std.proofs.Common.{◌≡◌, ◌+◌, [], length, All}
use Rattle.ticket_row.specs.Tickets.{IsFresh}
use Rattle.ticket_row.proofs.tickets.Tickets.new.Given as goal

abbrev pub invariant-loop : goal.invariant-loop
invariant-loop l =
    (length l.row.items + 1 ≡ l.counter)
    × All (IsFresh record { name = l.table.shared.table_id; count = l.count }) l.row.items
    × (l.first.table_id ≡ l.table.shared.table_id)
    × (l.first.me.1 ≡ [])
    × (l.first.me.0.count ≡ l.count)
    × (l.first.me.0.drawn ≡ [])
    × (l.first.me.0.ends ≡ 0)
    × (l.first.me.0.seats + l.counter ≡ l.seats + 1)
    × (l.row.cap ≡ l.initial.row.cap)
    × (l.table ≡ l.initial.table)
