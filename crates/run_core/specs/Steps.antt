-- One step: when an event may come, what it is answered, and what it leaves.
use Rattle.std.specs.Prelude.{◌≡◌, ℕ, ◌-◌, ◌^◌, ◌<◌, ◌++◌, Option, List, [], ◌∷◌, length, slice_index_or, slice_set}
use Rattle.std.specs.List.{All}
use Rattle.linear_elim.specs.Systems.{SystemParts}
use Rattle.donor_book.specs.Claims.{answer_to}
use Rattle.donor_book.specs.Entries.{BookParts, history_after, wins_of, with_history}
use Rattle.donor_book.specs.declared.claim.Claim.{Claim}
use Rattle.run_core.specs.States.{CoreParts}
use Rattle.run_core.specs.Workers.{WorkerState, having_drawn, idle, next_after, number_for}
use Rattle.run_core.specs.declared.event.CoreEvent.{CoreEvent}
use Rattle.run_core.specs.declared.event.CoreEvent.TheVariants as event
use Rattle.run_core.specs.declared.event.CoreReply.{CoreReply}
use Rattle.run_core.specs.declared.event.CoreReply.TheVariants as reply

-- the worker of this number
abbrev pub worker_at : CoreParts → ℕ → WorkerState
worker_at state worker = slice_index_or state.workers worker idle

-- the worker is one of those that there are
abbrev pub IsWorker : CoreParts → ℕ → Type 0
IsWorker state worker = worker < length state.workers

-- when an event may come: its worker is one of those that there are, a system is of the state's edits and has a number,
-- and a claim is one of the book's
abbrev pub IsDue : CoreParts → CoreEvent → Type 0
IsDue state (event.Draw worker) = IsWorker state worker
IsDue state (event.Publish worker system) =
    IsWorker state worker × (system.edits ≡ state.edits) × (length state.published < 2 ^ 32 - 1)
IsDue state (event.Claim worker row ranking) =
    IsWorker state worker × (row < state.book.rows) × All (λ donor. donor < state.book.donors) ranking

-- what a draw is answered
abbrev pub drawn_by : CoreParts → ℕ → Option ℕ
drawn_by state worker = number_for (worker_at state worker) state.next state.rows

-- what a claim is answered
abbrev pub claimed_by : CoreParts → ℕ → List ℕ → Claim
claimed_by state row ranking = answer_to state.book.limit (wins_of state.book.history) row ranking

-- what an event is answered; a system that is published, its place in the list
abbrev pub reply_to : CoreParts → CoreEvent → CoreReply
reply_to state (event.Draw worker) = reply.Drew (drawn_by state worker)
reply_to state (event.Publish worker system) = reply.Published (length state.published)
reply_to state (event.Claim worker row ranking) = reply.Claimed (claimed_by state row ranking)

-- the state with another next number and other workers
abbrev pub with_draws : CoreParts → ℕ → List WorkerState → CoreParts
with_draws state next workers =
    record { rows = state.rows; next = next; workers = workers; edits = state.edits; published = state.published; book = state.book }

-- the state with another list of published systems
abbrev pub with_published : CoreParts → List SystemParts → CoreParts
with_published state published =
    record { rows = state.rows; next = state.next; workers = state.workers; edits = state.edits; published = published; book = state.book }

-- the state with another book
abbrev pub with_book : CoreParts → BookParts → CoreParts
with_book state book =
    record { rows = state.rows; next = state.next; workers = state.workers; edits = state.edits; published = state.published; book = book }

-- the worker has the number that it was answered, or was told that none is left
abbrev pub worker_after : CoreParts → ℕ → WorkerState
worker_after state worker = having_drawn (worker_at state worker) (drawn_by state worker)

-- what a draw leaves
abbrev pub after_draw : CoreParts → ℕ → CoreParts
after_draw state worker =
    with_draws state (next_after (worker_at state worker) state.next) (slice_set state.workers worker (worker_after state worker))

-- the book after a claim
abbrev pub book_after : CoreParts → ℕ → List ℕ → BookParts
book_after state row ranking =
    with_history state.book (history_after state.book.history row ranking (claimed_by state row ranking))

-- what an event leaves: a draw changes its worker and the next number alone, a system that is published stands at the end
-- of the list, and a claim changes the book alone
abbrev pub after : CoreParts → CoreEvent → CoreParts
after state (event.Draw worker) = after_draw state worker
after state (event.Publish worker system) = with_published state (state.published ++ system ∷ [])
after state (event.Claim worker row ranking) = with_book state (book_after state row ranking)

-- the event is a claim
abbrev pub IsClaim : CoreEvent → Type 0
IsClaim (event.Claim worker row ranking) = Unit {0}
IsClaim (event.Draw worker) = ⊥
IsClaim (event.Publish worker system) = ⊥

-- what no event changes: how many rows and workers there are, the edits, and the terms of the book
pub record HasTermsOf (old new : CoreParts) : Type 0 where
  pub rows : new.rows ≡ old.rows
  pub workers : length new.workers ≡ length old.workers
  pub edits : new.edits ≡ old.edits
  pub limit : new.book.limit ≡ old.book.limit
  pub donors : new.book.donors ≡ old.book.donors
  pub book_rows : new.book.rows ≡ old.book.rows
