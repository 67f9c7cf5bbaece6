use Rattle.std.proofs.Common.{◌≡◌, ◌+◌, length}
use Rattle.std.specs.List.{All}
use Rattle.ticket_row.specs.Tickets.{IsFresh, Row}
use Rattle.class_books.specs.ClassPasses.{ClassesName, IsFreshPass}
use Rattle.record_workers.specs.inner.Gatherings.{IsReadyAt}
use Rattle.record_workers.proofs.ready.workers_at.Given as goal

abbrev pub invariant-loop-number : goal.invariant-loop-number
invariant-loop-number l = record {
  seats : length l.seats.items + l.number ≡ l.count;
  passes : length l.passes.items + l.number ≡ l.count;
  workers : length l.workers.items ≡ l.number;
  fresh : (row : Row) → All (IsFresh row) l.fn.seats.items → All (IsFresh row) l.seats.items;
  unspent : (books : ClassesName) → All (IsFreshPass books) l.fn.passes.items → All (IsFreshPass books) l.passes.items;
  ready : (row : Row) (books : ClassesName) → All (IsFresh row) l.fn.seats.items → All (IsFreshPass books) l.fn.passes.items
      → All (IsReadyAt row books) l.workers.items;
}
