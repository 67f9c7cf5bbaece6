-- Distinct codes, put in one after another.
use Rattle.std.specs.Prelude.{◌≡◌, ◌≢◌, ℕ, Bool, List, [], ◌∷◌, ◌++◌, All, MatchBool}

-- a code that is none of these is put last (true); one that is among them leaves them as they are (false)
abbrev pub Inserts : Bool → List (List ℕ) → List ℕ → List (List ℕ) → Type 0
Inserts added old code new =
    MatchBool added ((new ≡ old ++ code ∷ []) × All (λ n. n ≢ code) old) (¬ All (λ n. n ≢ code) old)
