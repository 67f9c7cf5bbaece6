-- What the seat of a caller knows.
use Rattle.std.specs.Prelude.{◌≡◌, ℕ, ◌+◌, ◌<◌, ◌^◌, Bool, []}
use Rattle.std.specs.List.{All}
use Rattle.std.specs.List.Sorted.{IsStrictlyIncreasing}
use Rattle.atomic_table.specs.Seated.{TableId}
use Rattle.atomic_table.specs.Table.{Me}
use Rattle.ticket_row.specs.declared.rule.Hand.{Hand}
use Rattle.ticket_row.specs.declared.rule.Terms.{Terms}
use Rattle.ticket_row.specs.Tickets.{Row, SeatState}
use Rattle.ticket_row.specs.inner.Rule.{hand_with, one_if}

-- the hand of a seat: it stands for one seat
abbrev pub hand_of : SeatState → Hand
hand_of seat = hand_with seat.row.count 1 seat.drawn (one_if seat.ended)

-- the row of a seat of that table with that hand
abbrev pub row_of : TableId → Hand → Row
row_of name hand = record { name = name; count = hand.count }

-- the seat at that table with that hand, where it is said whether it was answered None
abbrev pub seat_of : TableId → Hand → Bool → SeatState
seat_of name hand ended = record { row = row_of name hand; drawn = hand.drawn; ended = ended }

-- a table of one word, which counts the draws, for the tickets of these terms; its count stays in range
abbrev pub IssuesTickets : TableId → Terms → ℕ → Type 0
IssuesTickets table key count =
    (table.words ≡ 1)
    × (table.slots ≡ 0)
    × (key.count ≡ count)
    × (0 < key.seats)
    × (count + key.seats < 2 ^ 32)

-- the hand of one seat, which drew rising numbers below the count and may have met the end
abbrev pub KeepsSeat : Me (Unit {0}) Hand → Bool → Type 0
KeepsSeat me ended =
    (me.1 ≡ [])
    × (me.0.seats ≡ 1)
    × (me.0.ends ≡ one_if ended)
    × IsStrictlyIncreasing me.0.drawn
    × All (λ k. k < me.0.count) me.0.drawn
