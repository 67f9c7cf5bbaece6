use Rattle.std.specs.Prelude.{ℕ, suc, List, [], ◌∷◌, ◌++◌}

-- what each element gives with its place, counted from i, one after the other
abbrev pub each_from : {X A : Type 0} → (ℕ → X → List A) → ℕ → List X → List A
each_from give i [] = []
each_from give i (x ∷ xs) = give i x ++ each_from give (suc i) xs
