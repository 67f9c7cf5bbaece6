-- The columns of a name, found one after another.
use Rattle.std.specs.Prelude.{◌≡◌, ℕ, ◌+◌, List, [], ◌∷◌, Option, MatchOption, drop}
use Rattle.record_text.specs.Columns.{columns_from}

-- the columns, from this number on, in which the name stands
abbrev pub columns_on : ℕ → List ℕ → List (List ℕ) → List ℕ
columns_on from name header = columns_from from name (drop from header)

-- the first of the columns from this number on in which the name stands; None where there is none
abbrev pub IsNextColumn : Option ℕ → ℕ → List ℕ → List (List ℕ) → Type 0
IsNextColumn next from name header =
    MatchOption next (columns_on from name header ≡ []) (λ i. columns_on from name header ≡ i ∷ columns_on (i + 1) name header)
