-- How a text is written in a page, whatever its bytes are.
use Rattle.std.specs.Prelude.{◌≡◌, ◌≢◌, ◌⊎◌, ℕ, Bool, true, false, ◌==◌, not, nat_lt, if◌then◌else◌, List, [], ◌∷◌, ◌++◌, codes}
use Rattle.std.specs.List.{AllByRecursion, flat_map}
use Rattle.std.specs.Str.{is_utf8, IsUtf8}

-- a byte of a text, which is UTF-8 or not, is replaced: it is a control, but for tab and line feed, or past ASCII where the text
-- is not UTF-8
abbrev pub is_lost : Bool → ℕ → Bool
is_lost readable b =
    if b == 9 then false
    else if b == 10 then false
    else if nat_lt b 32 then true
    else if b == 127 then true
    else if nat_lt b 127 then false
    else not readable

-- what is written for a byte: five have an entity, and those that are lost give U+FFFD
abbrev pub escaped_byte : Bool → ℕ → List ℕ
escaped_byte readable b =
    if b == 38 then codes "&amp;"
    else if b == 60 then codes "&lt;"
    else if b == 62 then codes "&gt;"
    else if b == 34 then codes "&quot;"
    else if b == 39 then codes "&#39;"
    else if is_lost readable b then 239 ∷ 191 ∷ 189 ∷ []
    else b ∷ []

-- what is written for a text
unfoldable pub escaped : List ℕ → List ℕ
escaped text = flat_map (escaped_byte (is_utf8 text)) text

-- nothing of a text is lost: it is UTF-8, and holds no control but tab and line feed
abbrev pub IsKept : List ℕ → Type 0
IsKept text = IsUtf8 text × AllByRecursion (λ b. is_lost true b ≡ false) text

-- one of the five entities is next, behind its ampersand
abbrev pub IsEntity : List ℕ → Type 0
IsEntity bytes =
    (rest : List ℕ) × ((bytes ≡ codes "amp;" ++ rest) ⊎ (bytes ≡ codes "lt;" ++ rest) ⊎ (bytes ≡ codes "gt;" ++ rest)
    ⊎ (bytes ≡ codes "quot;" ++ rest) ⊎ (bytes ≡ codes "#39;" ++ rest))

-- no byte of markup: no less-than or greater-than sign, no quotation mark and no apostrophe, and an ampersand only where it begins
-- one of the five entities
abbrev pub IsInert : List ℕ → Type 0
IsInert [] = Unit {0}
IsInert (b ∷ bytes) = (b ≢ 60) × (b ≢ 62) × (b ≢ 34) × (b ≢ 39) × (b ≡ 38 → IsEntity bytes) × IsInert bytes
