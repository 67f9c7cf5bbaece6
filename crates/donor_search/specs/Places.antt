-- The places of the elements of a list that pass a test.
use Rattle.std.specs.Prelude.{ℕ, suc, ◌++◌, Bool, if◌then◌else◌, List, [], ◌∷◌}

-- a place alone if its element passes, and else none
abbrev pub place_if : Bool → ℕ → List ℕ
place_if passes i = if passes then i ∷ [] else []

-- the places of the elements that pass, in order; the first element stands at place i
abbrev pub places_from : {X : Type 0} → (X → Bool) → ℕ → List X → List ℕ
places_from test i [] = []
places_from test i (x ∷ xs) = place_if (test x) i ++ places_from test (suc i) xs
