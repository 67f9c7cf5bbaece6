use Rattle.std.specs.Prelude.{◌≡◌, ℕ, zero, suc, ◌-◌, ◌^◌, ◌==◌, ◌||◌, ◌&&◌, Bool, if◌then◌else◌, nat_lt, List, [], ◌∷◌, Option, Some, None, Result, Ok, Err, ℤ, pos, int_le, neg_ℤ, codes, map}
use Rattle.std.specs.Fmt.{decimal, signed_decimal}
use Rattle.std.specs.List.{list_all}
use Rattle.std.specs.Str.{bytes_eq}
use Rattle.std.specs.Str.Parse.{digits_value}
use Rattle.edit_line.specs.declared.place.Place.{Place}
use Rattle.edit_line.specs.declared.place.Place.TheVariants.{Field, Constant}
use Rattle.edit_line.specs.Combinations.{in_range}
use Rattle.proof_grammar.specs.ProofLines.{Line}
use Rattle.proof_grammar.specs.Cuts.{split}
use Rattle.proof_grammar.specs.declared.words.Stop.{Stop}
use Rattle.proof_grammar.specs.declared.words.Stop.TheVariants as stop

-- How words are read. The contracts of the reader alone cite this page.

-- the words of what is left of a line, if something is
abbrev pub words_left : Option (List ℕ) → Line
words_left None = []
words_left (Some text) = split 32 text

-- ---- one word

-- the number of this spelling
abbrev pub decimal_said : List ℕ → Option ℕ
decimal_said w = if bytes_eq w (decimal (digits_value 10 w)) && nat_lt (digits_value 10 w) (2 ^ 128) then Some (digits_value 10 w) else None

-- a number below a limit
abbrev pub below : ℕ → Option ℕ → Option ℕ
below limit None = None
below limit (Some n) = if nat_lt n limit then Some n else None

-- what is named from 1 on, below a limit
abbrev pub named_below : ℕ → Option ℕ → Option ℕ
named_below limit None = None
named_below limit (Some zero) = None
named_below limit (Some (suc n)) = if nat_lt n limit then Some n else None

-- what is named from 1 on, below a limit; or 0 for none
abbrev pub named_or_none : ℕ → Option ℕ → Option (Option ℕ)
named_or_none limit None = None
named_or_none limit (Some zero) = Some None
named_or_none limit (Some (suc n)) = if nat_lt n limit then Some (Some n) else None

-- a number of 64 bits
abbrev pub long_said : List ℕ → Option ℕ
long_said w = below (2 ^ 64) (decimal_said w)

-- a number of 32 bits
abbrev pub short_said : List ℕ → Option ℕ
short_said w = below (2 ^ 32) (decimal_said w)

-- the number, from 0, of what is named from 1 to 2^64
abbrev pub named_long : List ℕ → Option ℕ
named_long w = named_below (2 ^ 64) (decimal_said w)

-- the number, from 0, of what is named from 1 to 2^32
abbrev pub named_short : List ℕ → Option ℕ
named_short w = named_below (2 ^ 32) (decimal_said w)

-- the same, or the inner None for the word 0
abbrev pub named_short_or_0 : List ℕ → Option (Option ℕ)
named_short_or_0 w = named_or_none (2 ^ 32) (decimal_said w)

-- one less than a number of 64 bits that is not 0
abbrev pub positive_said : List ℕ → Option ℕ
positive_said w = named_below (2 ^ 64 - 1) (decimal_said w)

-- a number with its sign
abbrev pub whole_of : List ℕ → ℤ
whole_of [] = pos 0
whole_of (b ∷ ds) = if b == 45 then neg_ℤ (pos (digits_value 10 ds)) else pos (digits_value 10 (b ∷ ds))

-- the number in range of this spelling
abbrev pub whole_said : List ℕ → Option ℤ
whole_said w = if bytes_eq w (signed_decimal (whole_of w)) && in_range (whole_of w) then Some (whole_of w) else None

-- a number that is not negative
abbrev pub not_negative : Option ℤ → Option ℤ
not_negative None = None
not_negative (Some z) = if int_le (pos 0) z then Some z else None

-- a number in range that is not negative
abbrev pub divisor_said : List ℕ → Option ℤ
divisor_said w = not_negative (whole_said w)

-- K or C
abbrev pub is_path_letter : ℕ → Bool
is_path_letter b = b == 75 || b == 67

-- C, which says that a field is changed
abbrev pub is_changed : ℕ → Bool
is_changed b = b == 67

-- the letters of a path
abbrev pub path_said : List ℕ → Option (List Bool)
path_said [] = None
path_said (b ∷ bs) =
    if bytes_eq (b ∷ bs) (codes "-") then Some []
    else if list_all is_path_letter (b ∷ bs) then Some (map is_changed (b ∷ bs))
    else None

-- the field of a number, or the constant
abbrev pub place_of : Option ℕ → Place
place_of None = Constant
place_of (Some f) = Field f

-- the same, where a word says one
abbrev pub said_place : Option (Option ℕ) → Option Place
said_place None = None
said_place (Some f) = Some (place_of f)

-- a field from 1 on, or 0 for the constant
abbrev pub place_said : List ℕ → Option Place
place_said w = said_place (named_short_or_0 w)

-- this word and no other
abbrev pub fixed_said : List ℕ → List ℕ → Option (Unit {0})
fixed_said word w = if bytes_eq w word then Some tt else None

-- ---- words one after another

-- what is read at the front, and the words behind it
abbrev pub Front : Type 0 → Type 0
Front X = Option (X × Line)

-- what a word says, and the words behind it
abbrev pub with_rest : {X : Type 0} → Line → Option X → Front X
with_rest ws None = None
with_rest ws (Some x) = Some (x, ws)

-- the first word
abbrev pub word_in : {X : Type 0} → (List ℕ → Option X) → Line → Front X
word_in said [] = None
word_in said (w ∷ ws) = with_rest ws (said w)

-- nothing is left
abbrev pub ended : {X : Type 0} → X → Line → Option X
ended x [] = Some x
ended x (w ∷ ws) = None

-- ---- what a reader answers

-- it took this from the front; want of memory tells nothing
abbrev pub Takes : {X : Type 0} → Result X Stop → Line → Front X → Type 0
Takes (Ok x) left front = front ≡ Some (x, left)
Takes (Err stop.Form) left front = front ≡ None
Takes (Err stop.OutOfMemory) left front = Unit {0}

-- it read all words so
abbrev pub ReadsAs : {X : Type 0} → Result X Stop → Option X → Type 0
ReadsAs (Ok x) read = read ≡ Some x
ReadsAs (Err stop.Form) read = read ≡ None
ReadsAs (Err stop.OutOfMemory) read = Unit {0}
