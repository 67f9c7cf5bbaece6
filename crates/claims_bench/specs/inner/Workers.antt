-- The workers, before and after they draw and claim.
use Rattle.std.specs.Prelude.{◌≡◌, ◌≤◌, List, map, true}
use Rattle.ticket_row.specs.Tickets.{Row, SeatState}
use Rattle.donor_book.specs.Passes.{BookName, PassState}
use Rattle.claims_bench.specs.inner.Rankings.{donors_for}
use Rattle.claims_bench.specs.declared.worker.Worker.{Worker}

-- the book has a row for each ticket, and the donors for this number of rows
pub record Fits (row : Row) (book : BookName) : Type 0 where
  pub rows : row.count ≡ book.terms.rows
  pub donors : book.terms.donors ≡ donors_for book.terms.rows
  pub few : book.terms.rows ≤ 10000000

-- the worker draws from this row of tickets and claims from this book
pub record IsReady (row : Row) (book : BookName) (worker : Worker) : Type 0 where
  pub seat : worker.seat.row ≡ row
  pub pass : worker.pass.book ≡ book

-- the worker is one of these tickets and of this book, and has drawn until none was left
pub record HasRun (row : Row) (book : BookName) (worker : Worker) : Type 0 where
  pub ready : IsReady row book worker
  pub ended : worker.seat.ended ≡ true

-- the seats of the workers
abbrev pub seats_of : List Worker → List SeatState
seats_of workers = map (λ (w : Worker). w.seat) workers

-- the passes of the workers
abbrev pub passes_of : List Worker → List PassState
passes_of workers = map (λ (w : Worker). w.pass) workers
