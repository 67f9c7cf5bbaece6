-- How a file of cases spells bytes.
use Rattle.std.specs.Prelude.{ℕ, ◌/◌, ◌%◌, ◌==◌, ◌||◌, Bool, false, if◌then◌else◌, List, [], ◌∷◌, ◌++◌, codes, slice_index}
use Rattle.std.specs.Char.{is_ascii_graphic}
use Rattle.std.specs.List.{ends_with, flat_map, list_all}
use Rattle.std.specs.Bool.{nat_eq}

-- a space, or a letter, digit or sign of ASCII
abbrev pub is_printable : ℕ → Bool
is_printable byte = (byte == 32) || is_ascii_graphic byte

-- a digit of base 16
abbrev pub digit : ℕ → ℕ
digit n = slice_index (codes "0123456789abcdef") n

-- a backslash, an x and the byte's two digits of base 16
abbrev pub escaped_byte : ℕ → List ℕ
escaped_byte byte = 92 ∷ 120 ∷ digit (byte / 16) ∷ digit (byte % 16) ∷ []

-- a byte of an escaped line: a backslash is doubled, and what is not printable is told by its digits
abbrev pub byte_spelling : ℕ → List ℕ
byte_spelling byte = if byte == 92 then 92 ∷ 92 ∷ [] else if is_printable byte then byte ∷ [] else escaped_byte byte

-- the line stands as it is: all of it is printable, and its end is not that of another spelling
abbrev pub is_plain : List ℕ → Bool
is_plain line =
    if ends_with nat_eq line (codes " (esc)") || ends_with nat_eq line (codes " (no-eol)") then false else list_all is_printable line

-- a line, with a line feed behind it or not
abbrev pub line_spelling : List ℕ → Bool → List ℕ
line_spelling line ended =
    (if is_plain line then line else flat_map byte_spelling line ++ codes " (esc)") ++ (if ended then [] else codes " (no-eol)")
