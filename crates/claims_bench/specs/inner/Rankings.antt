-- The donors, and which of them a row ranks.
use Rattle.std.specs.Prelude.{ℕ, ◌+◌, ◌*◌, ◌/◌, List, [], ◌∷◌}

-- how many donors there are for this number of rows: 3 more, which the last rows may rank
abbrev pub donors_for : ℕ → ℕ
donors_for rows = rows + 3

-- the donors that a row ranks: those with the numbers of the 4 rows of its group, in order
abbrev pub ranking_of : ℕ → List ℕ
ranking_of row = row / 4 * 4 ∷ (row / 4 * 4 + 1) ∷ (row / 4 * 4 + 2) ∷ (row / 4 * 4 + 3) ∷ []
