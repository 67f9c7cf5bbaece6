-- What a table of keys has for a key.
use Rattle.std.specs.Prelude.{◌≡◌, ℕ, if◌then◌else◌, List, [], ◌∷◌, Option, None, Some}
use Rattle.std.specs.Map.{lookup}
use Rattle.std.specs.Str.{bytes_eq}

-- the entry of a key that these rows have: no entry, one with the only row, or one without a row where there are several
abbrev pub entry_of : List ℕ → Option (Option ℕ)
entry_of [] = None
entry_of (i ∷ []) = Some (Some i)
entry_of (i ∷ j ∷ rows) = Some None

-- the row that a key's entry has when one row more has the key, where this was the entry before: none where there was an entry already
abbrev pub row_after : Option (Option ℕ) → ℕ → Option ℕ
row_after None row = Some row
row_after (Some before) row = None

-- the entry of a key when one row more has the key, where this was the entry before
abbrev pub entry_after : Option (Option ℕ) → ℕ → Option (Option ℕ)
entry_after entry row = Some (row_after entry row)

-- the table after it is noted that the row has the key
abbrev pub IsNoted : List (List ℕ × Option ℕ) → List (List ℕ × Option ℕ) → List ℕ → ℕ → Type 0
IsNoted old new key row = (other : List ℕ)
    → lookup (bytes_eq other) new
    ≡ (if bytes_eq key other then entry_after (lookup (bytes_eq key) old) row else lookup (bytes_eq other) old)
