-- What the numbers of an edit lie between.
use Rattle.std.specs.Prelude.{ℕ, ◌≤◌}
use Rattle.foundation.specs.Limits.{most_workers, most_work, most_gifts, most_near}

-- 1 to 64 workers, a budget from 1 to 1,000,000,000, a limit from 1 to 1,000, and 1 to 64 donors that a record ranks
abbrev pub InBounds : ℕ → ℕ → ℕ → ℕ → Type 0
InBounds workers budget limit near =
    (1 ≤ workers) × (workers ≤ most_workers) × (1 ≤ budget) × (budget ≤ most_work) × (1 ≤ limit) × (limit ≤ most_gifts) × (1 ≤ near)
    × (near ≤ most_near)
