-- When what came is what was to come.
use Rattle.std.specs.Prelude.{ℕ, Bool, true, false, ◌&&◌, List, [], ◌∷◌}
use Rattle.std.specs.Str.{bytes_eq}

-- whether both lists have the same lines in the same order
abbrev pub are_same : List (List ℕ) → List (List ℕ) → Bool
are_same [] [] = true
are_same [] (line ∷ lines) = false
are_same (line ∷ lines) [] = false
are_same (line ∷ lines) (other ∷ others) = bytes_eq line other && are_same lines others
