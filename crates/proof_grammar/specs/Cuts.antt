use Rattle.std.specs.Prelude.{ℕ, ◌==◌, if◌then◌else◌, List, [], ◌∷◌}
use Rattle.proof_grammar.specs.ProofLines.{Line}

-- Bytes that are cut into lines and words. The contracts of the reader alone cite this page.

-- a byte before the first part
abbrev pub push : ℕ → List (List ℕ) → List (List ℕ)
push b [] = (b ∷ []) ∷ []
push b (s ∷ ss) = (b ∷ s) ∷ ss

-- the parts between the marks
abbrev pub split : ℕ → List ℕ → List (List ℕ)
split mark [] = [] ∷ []
split mark (b ∷ bytes) = if b == mark then [] ∷ split mark bytes else push b (split mark bytes)

-- the lines of parts between line feeds: what stands behind the last feed is none, and where it is not empty it is a line without words
abbrev pub lines_of_parts : List (List ℕ) → List Line
lines_of_parts [] = []
lines_of_parts ([] ∷ []) = []
lines_of_parts ((b ∷ s) ∷ []) = [] ∷ []
lines_of_parts (s ∷ t ∷ ss) = split 32 s ∷ lines_of_parts (t ∷ ss)

-- the lines of bytes
abbrev pub lines_in : List ℕ → List Line
lines_in bytes = lines_of_parts (split 10 bytes)
