-- Sets that have no codes but their fields'.
use Rattle.std.specs.Prelude.{ℕ, ◌≤◌, List, [], ◌∷◌}

-- a set for each whole set of a field's codes, with none but the field's codes
abbrev pub AreWithin : List ℕ → List ℕ → Type 0
AreWithin [] [] = Unit {0}
AreWithin (set ∷ sets) (whole ∷ wholes) = (set ≤ whole) × AreWithin sets wholes
AreWithin _ _ = ⊥
