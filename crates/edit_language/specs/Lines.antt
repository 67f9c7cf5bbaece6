-- The lines of a rule text, and what of a line is read.
use Rattle.std.specs.Prelude.{ℕ, ◌==◌, ◌&&◌, ◌||◌, not, Bool, List, [], ◌∷◌, drop, nat_eq, nat_le, if◌then◌else◌}
use Rattle.std.specs.List.{before_first, list_any, slice_split, starts_with}

-- the UTF-8 byte order mark
abbrev pub order_mark : List ℕ
order_mark = 239 ∷ 187 ∷ 191 ∷ []

-- the text without a byte order mark at its front
abbrev pub without_mark : List ℕ → List ℕ
without_mark bytes = if starts_with nat_eq bytes order_mark then drop 3 bytes else bytes

-- the lines of a text: what stands before, between and after its line feeds
abbrev pub text_lines : List ℕ → List (List ℕ)
text_lines bytes = slice_split (λ b. b == 10) (without_mark bytes)

-- the line without a carriage return at its end
abbrev pub without_return : List ℕ → List ℕ
without_return [] = []
without_return (b ∷ []) = if b == 13 then [] else b ∷ []
without_return (b ∷ c ∷ bs) = b ∷ without_return (c ∷ bs)

-- what of a line is read: all before its comment, which begins at the first `#`
abbrev pub read_part : List ℕ → List ℕ
read_part line = before_first (λ b. b == 35) (without_return line)

-- neither a printable ASCII byte nor a tab
abbrev pub is_bad_byte : ℕ → Bool
is_bad_byte b = not ((nat_le 32 b && nat_le b 126) || (b == 9))

-- whether a byte that is read is bad
abbrev pub has_bad_byte : List ℕ → Bool
has_bad_byte line = list_any is_bad_byte (read_part line)
