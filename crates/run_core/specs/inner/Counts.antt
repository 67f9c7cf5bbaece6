-- How the draws of all workers count up to the next number.
use Rattle.std.specs.Prelude.{◌≡◌, ℕ, ◌-◌, List, min}
use Rattle.std.specs.List.{count_by}
use Rattle.run_core.specs.Laws.{times_drawn}
use Rattle.run_core.specs.Workers.{WorkerState}

-- 1 where the number is below the bound, and else 0
abbrev pub once_below : ℕ → ℕ → ℕ
once_below number bound = min 1 (bound - number)

-- each number below the next and the rows is drawn once and no other, and as many workers were told that none is
-- left as there were draws past the rows
pub record AreCounted (rows next : ℕ) (workers : List WorkerState) : Type 0 where
  pub each : (number : ℕ) → times_drawn number workers ≡ once_below number (min next rows)
  pub ends : count_by (λ (w : WorkerState). w.ended) workers ≡ next - rows
