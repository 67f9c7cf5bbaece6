-- Sets that are compared with the whole sets of a shape, one after the other.
use Rattle.std.specs.Prelude.{◌≡◌, ℕ, ◌++◌, Bool, false, List, [], ◌∷◌, drop, nat_eq}
use Rattle.std.specs.Cmp.Lexicographic.{pointwise}
use Rattle.edit_line.specs.Shapes.{domain_with, whole_sets}

-- whether the sets from a place on are these
abbrev pub are_from : List ℕ → ℕ → List ℕ → Bool
are_from sets place wholes = pointwise nat_eq (drop place sets) wholes

-- the sets of a field with this number of codes, and then the rest
abbrev pub whole_before : ℕ → List ℕ → List ℕ
whole_before count rest = whole_sets (domain_with count ∷ []) ++ rest

-- the set at the place is the whole one of a field with this number of codes, and the next place is behind it
abbrev pub IsWholeUpTo : List ℕ → ℕ → ℕ → ℕ → Type 0
IsWholeUpTo sets place count next = (rest : List ℕ) → are_from sets place (whole_before count rest) ≡ are_from sets next rest

-- the set at the place is not the whole one of a field with this number of codes
abbrev pub IsNotWhole : List ℕ → ℕ → ℕ → Type 0
IsNotWhole sets place count = (rest : List ℕ) → are_from sets place (whole_before count rest) ≡ false
