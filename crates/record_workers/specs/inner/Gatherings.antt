-- What some workers have, all together.
use Rattle.std.specs.Prelude.{◌≡◌, ℕ, ◌+◌, ◌==◌, true, if◌then◌else◌, List, [], Option, Some, None, length, map, slice_get}
use Rattle.std.specs.List.{flat_map}
use Rattle.ticket_row.specs.Tickets as tickets
use Rattle.donor_book.specs.Entries.{entry_of}
use Rattle.donor_book.specs.declared.claim.Entry.{Entry}
use Rattle.donor_book.specs.declared.claim.Won.{Won}
use Rattle.class_books.specs.ClassPasses.{ClassPassState, ClassTerms, ClassesName, IsFreshPass}
use Rattle.record_pieces.specs.Classes.{class_read}
use Rattle.record_pieces.specs.Needs.{Need, needs_by}
use Rattle.record_pieces.specs.Rests.{class_field_in, rows_in}
use Rattle.record_pieces.specs.declared.piece.Piece.{Piece}
use Rattle.record_pieces.specs.declared.rest.Rest.{Rest}
use Rattle.record_workers.specs.Workers.{FoundAll, HasWorked}
use Rattle.record_workers.specs.declared.shared.Shared.{Shared}
use Rattle.record_workers.specs.declared.worker.Worker.{Worker}

-- the seats, the passes and the pieces of these workers, in the workers' order
abbrev pub seats_of : List Worker → List tickets.SeatState
seats_of workers = map (λ (w : Worker). w.seat) workers

abbrev pub passes_of : List Worker → List ClassPassState
passes_of workers = map (λ (w : Worker). w.pass) workers

abbrev pub pieces_of : List Worker → List Piece
pieces_of workers = flat_map (λ (w : Worker). w.pieces.items) workers

-- the ranking of a piece, or no donors where it has none
abbrev pub ranking_or : Option (List ℕ) → List ℕ
ranking_or None = []
ranking_or (Some ranking) = ranking

abbrev pub ranking_at : Option Piece → List ℕ
ranking_at None = []
ranking_at (Some piece) = ranking_or piece.ranking

-- the claim of a record, with the ranking that its piece has, of pieces in row order
abbrev pub entry_by : List Piece → Won → Entry
entry_by pieces w = entry_of w.row_no (ranking_at (slice_get pieces w.row_no)) w.reply

-- the claim of a record of the last class, if it needs a donor: nobody is given to it
abbrev pub unanswered_for : List Need → List Entry
unanswered_for needs = map (λ (need : Need). entry_of need.row_no need.ranking None) needs

abbrev pub unanswered_by : ℕ → Piece → List Entry
unanswered_by last piece = if piece.class == last then unanswered_for (needs_by piece.row_no piece.ranking) else []

-- the claims of the records of the last class, in row order
abbrev pub unanswered : ℕ → List Piece → List Entry
unanswered last pieces = flat_map (unanswered_by last) pieces

-- by what the books are kept: the class of each row as it was read, a book for each class, and as many passes
abbrev pub terms_over : {F : Type 0} → Rest F → ℕ → ℕ → ClassTerms
terms_over rest limit passes =
    record {
      class_of = map (class_read (length rest.decks.of_class.items) (class_field_in rest)) (rows_in rest);
      classes = length rest.decks.of_class.items + 1;
      limit = limit;
      passes = passes;
    }

-- a worker at these tickets and at these books that has done nothing yet
pub record IsReadyAt (row : tickets.Row) (books : ClassesName) (worker : Worker) : Type 0 where
  pub seat : tickets.IsFresh row worker.seat
  pub pass : IsFreshPass books worker.pass
  pub reader : worker.reader ≡ []
  pub pieces : worker.pieces.items ≡ []

-- what workers share, of its parts
abbrev pub shared_of : {F : Type 0} → Rest F → tickets.Issue → ClassesName → Shared F
shared_of rest issue books = record { rest = rest; tickets = issue; books = books }

-- a worker has drawn records until none was left
pub record HasRun {F : Type 0} (shared : Shared F) (worker : Worker) : Type 0 where
  pub worked : HasWorked shared worker
  pub found : FoundAll worker
  pub ended : worker.seat.ended ≡ true
