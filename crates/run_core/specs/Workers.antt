-- A worker, and its draws of row numbers.
use Rattle.std.specs.Prelude.{ℕ, ◌+◌, ◌++◌, Bool, true, false, Option, Some, None, List, [], ◌∷◌, if◌then◌else◌, nat_lt}

-- a worker: the numbers that it drew, in the order of its draws, and whether it was told that none is left
pub record WorkerState : Type 0 where
  pub drawn : List ℕ
  pub ended : Bool

-- a worker that has not drawn yet
abbrev pub idle : WorkerState
idle = record { drawn = []; ended = false }

-- what its draw is answered: the next number where there is one below `rows`; None where there is not, and from then on
abbrev pub number_for : WorkerState → ℕ → ℕ → Option ℕ
number_for worker next rows = if worker.ended then None else (if nat_lt next rows then Some next else None)

-- the next number after its draw: one more, unless it had been told that none is left
abbrev pub next_after : WorkerState → ℕ → ℕ
next_after worker next = if worker.ended then next else next + 1

-- the worker after a draw that was answered this
abbrev pub having_drawn : WorkerState → Option ℕ → WorkerState
having_drawn worker (Some number) = record { drawn = worker.drawn ++ number ∷ []; ended = worker.ended }
having_drawn worker None = record { drawn = worker.drawn; ended = true }
