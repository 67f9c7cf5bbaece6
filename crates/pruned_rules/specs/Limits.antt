-- The limit of the work on lines that may follow from the others.
use Rattle.std.specs.Prelude.{ℕ}

-- the most work that is done to find whether one line of the rules may be dropped
abbrev pub pruning_budget : ℕ
pruning_budget = 2000
