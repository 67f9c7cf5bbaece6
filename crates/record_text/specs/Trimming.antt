-- What is taken off texts: blanks at their ends, and byte order marks at their front.
use Rattle.std.specs.Prelude.{ℕ, ◌==◌, ◌||◌, Bool, if◌then◌else◌, List, [], ◌∷◌}
use Rattle.std.specs.List.{list_all}
use Rattle.csv.specs.Reading.{is_bom}

-- a space or a tab
abbrev pub is_blank : ℕ → Bool
is_blank b = (b == 32) || (b == 9)

-- a text without the blanks at its front
abbrev pub without_front : List ℕ → List ℕ
without_front [] = []
without_front (b ∷ bs) = if is_blank b then without_front bs else b ∷ bs

-- a text without the blanks at its end
abbrev pub without_end : List ℕ → List ℕ
without_end [] = []
without_end (b ∷ bs) = if list_all is_blank (b ∷ bs) then [] else b ∷ without_end bs

-- a text without spaces and tabs at both ends
abbrev pub trimmed : List ℕ → List ℕ
trimmed text = without_end (without_front text)

-- a text without the byte order marks at its front, however many
abbrev pub without_marks : List ℕ → List ℕ
without_marks [] = []
without_marks (a ∷ []) = a ∷ []
without_marks (a ∷ b ∷ []) = a ∷ b ∷ []
without_marks (a ∷ b ∷ c ∷ rest) = if is_bom a b c then without_marks rest else a ∷ b ∷ c ∷ rest

-- a header: the texts of the first record, the first of them without byte order marks at its front
abbrev pub header_of : List (List ℕ) → List (List ℕ)
header_of [] = []
header_of (text ∷ texts) = without_marks text ∷ texts
