-- In which columns of a header names stand, as those of fields.
use Rattle.std.specs.Prelude.{◌≡◌, ◌≢◌, ℕ, suc, if◌then◌else◌, List, [], ◌∷◌, Option, MatchOption}
use Rattle.std.specs.Str.{bytes_eq}
use Rattle.edit_model.specs.declared.field.Field.{Field}
use Rattle.record_text.specs.Trimming.{trimmed}

-- the columns, from number i on, whose header text without blanks at its ends is the name
abbrev pub columns_from : ℕ → List ℕ → List (List ℕ) → List ℕ
columns_from i name [] = []
columns_from i name (text ∷ header) =
    if bytes_eq (trimmed text) name then i ∷ columns_from (suc i) name header else columns_from (suc i) name header

-- the columns in which a name stands
abbrev pub columns_of : List ℕ → List (List ℕ) → List ℕ
columns_of name header = columns_from 0 name header

-- the name stands in this column alone; where there is none, it stands in no column or in several
abbrev pub IsOneColumn : List ℕ → List (List ℕ) → Option ℕ → Type 0
IsOneColumn name header column =
    MatchOption column ((i : ℕ) → columns_of name header ≢ i ∷ []) (λ i. columns_of name header ≡ i ∷ [])

-- each field stands in one column, and these are the columns
abbrev pub StandIn : List Field → List (List ℕ) → List ℕ → Type 0
StandIn [] header [] = Unit {0}
StandIn (field ∷ fields) header (column ∷ columns) = (columns_of field.name header ≡ column ∷ []) × StandIn fields header columns
StandIn _ header _ = ⊥
