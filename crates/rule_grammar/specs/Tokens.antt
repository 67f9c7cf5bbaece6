-- The tokens of a line's text, from left to right; each is the longest that can be read.
use Rattle.std.specs.Prelude.{ℕ, zero, suc, ◌==◌, ◌||◌, ◌+◌, ◌^◌, min, Bool, true, false, List, [], ◌∷◌, length, take, drop, nat_le, codes}
use Rattle.std.specs.Prelude.{if◌then◌else◌}
use Rattle.std.specs.List.{prefix_len}
use Rattle.std.specs.Str.{bytes_eq}
use Rattle.std.specs.Str.Parse.{digits_value}
use Rattle.foundation.specs.Limits.{most_letters}
use Rattle.edit_model.specs.Surveys.{is_letter, is_digit}
use Rattle.edit_model.specs.declared.rule.Compare.{Compare as Comparison}
use Rattle.edit_model.specs.declared.rule.Compare.TheVariants.{Ge, Gt, Le, Lt, Eq}
use Rattle.rule_grammar.specs.declared.token.Keyword.TheVariants as keyword
use Rattle.rule_grammar.specs.declared.token.Numeral.{Numeral as Amount}
use Rattle.rule_grammar.specs.declared.token.Numeral.TheVariants as amount
use Rattle.rule_grammar.specs.declared.token.Sign.TheVariants as sign
use Rattle.rule_grammar.specs.declared.token.Token.{Token}
use Rattle.rule_grammar.specs.declared.token.Token.TheVariants as token

-- a space or a tab
abbrev pub is_blank : ℕ → Bool
is_blank b = (b == 32) || (b == 9)

-- a letter, a digit or `_`
abbrev pub is_word_byte : ℕ → Bool
is_word_byte b = is_letter b || (is_digit b || (b == 95))

-- a byte of a code: a letter, a digit, `_`, `-` or `.`
abbrev pub is_code_byte : ℕ → Bool
is_code_byte b = is_letter b || (is_digit b || ((b == 95) || ((b == 45) || (b == 46))))

-- the text without the blanks at its front
abbrev pub after_blanks : List ℕ → List ℕ
after_blanks text = drop (prefix_len is_blank text) text

-- a token at the front of a text, and the text after it
pub record Front : Type 0 where
  pub token : Token
  pub rest : List ℕ

-- ---- words

-- the keyword that a word is, or else the name of a field
abbrev pub word_token : List ℕ → Token
word_token word =
    if bytes_eq word (codes "number") then token.Keyword keyword.Number
    else if bytes_eq word (codes "code") then token.Keyword keyword.Code
    else if bytes_eq word (codes "weight") then token.Keyword keyword.Weight
    else if bytes_eq word (codes "scale") then token.Keyword keyword.Scale
    else if bytes_eq word (codes "in") then token.Keyword keyword.In
    else if bytes_eq word (codes "not") then token.Keyword keyword.Not
    else if bytes_eq word (codes "if") then token.Keyword keyword.If
    else if bytes_eq word (codes "and") then token.Keyword keyword.And
    else if bytes_eq word (codes "then") then token.Keyword keyword.Then
    else token.Name word

-- how many bytes `inside` takes in a row at the front, at most 32
abbrev pub run_len : (ℕ → Bool) → List ℕ → ℕ
run_len inside text = min most_letters (prefix_len inside text)

-- the token that is made of the run at the front
abbrev pub front_run : (ℕ → Bool) → (List ℕ → Token) → List ℕ → Front
front_run inside made text = record { token = made (take (run_len inside text) text); rest = drop (run_len inside text) text }

-- ---- numerals

-- the whole number that the digits spell, where the language has a place for it
abbrev pub whole_numeral : List ℕ → Amount
whole_numeral digits = if nat_le (digits_value 10 digits) (10 ^ 15) then amount.Whole (digits_value 10 digits) else amount.OutOfRange

-- how many bytes a point and one digit or more take at the front
abbrev pub decimals_len : List ℕ → ℕ
decimals_len [] = 0
decimals_len (b ∷ bs) = if b == 46 then (if prefix_len is_digit bs == 0 then 0 else 1 + prefix_len is_digit bs) else 0

-- the numeral at the front: digits, and a point with digits where it has them
abbrev pub front_numeral : List ℕ → Front
front_numeral text =
    let digits = prefix_len is_digit text in
    let decimals = decimals_len (drop digits text) in
    if decimals == 0
    then record { token = token.Numeral (whole_numeral (take digits text)); rest = drop digits text }
    else record { token = token.Numeral amount.OutOfRange; rest = drop decimals (drop digits text) }

-- ---- marks

-- a comparison with `=` behind its first byte, or without
abbrev pub front_compare : Comparison → Comparison → List ℕ → Front
front_compare wide strict [] = record { token = token.Compare strict; rest = [] }
front_compare wide strict (b ∷ bs) =
    if b == 61 then record { token = token.Compare wide; rest = bs } else record { token = token.Compare strict; rest = b ∷ bs }

-- the token of one byte outside braces
abbrev pub mark_token : ℕ → Token
mark_token b =
    if b == 61 then token.Compare Eq
    else if b == 43 then token.Sign sign.Plus
    else if b == 45 then token.Sign sign.Minus
    else if b == 42 then token.Times
    else if b == 123 then token.Open
    else token.Stray

-- the token of one byte inside braces
abbrev pub list_mark_token : ℕ → Token
list_mark_token b =
    if b == 44 then token.Comma
    else if b == 125 then token.Close
    else token.Stray

-- ---- all tokens

-- the token at the front of a text that begins with no blank; `inside` says whether it stands inside braces
abbrev pub front_of : Bool → ℕ → List ℕ → Front
front_of true b bs =
    if is_code_byte b then front_run is_code_byte (λ code. token.Code code) (b ∷ bs)
    else record { token = list_mark_token b; rest = bs }
front_of false b bs =
    if is_letter b then front_run is_word_byte word_token (b ∷ bs)
    else if is_digit b then front_numeral (b ∷ bs)
    else if b == 62 then front_compare Ge Gt bs
    else if b == 60 then front_compare Le Lt bs
    else record { token = mark_token b; rest = bs }

-- whether what follows the token stands inside braces
abbrev pub is_inside_after : Bool → Token → Bool
is_inside_after inside token.Open = true
is_inside_after inside token.Close = false
is_inside_after inside other = inside

-- the token at the front, and those that `more` finds in what follows it
abbrev pub with_front : Bool → List ℕ → (Bool → List ℕ → List Token) → List Token
with_front inside [] more = []
with_front inside (b ∷ bs) more =
    let front = front_of inside b bs in
    front.token ∷ more (is_inside_after inside front.token) front.rest

-- the first tokens of a text, at most `n`
abbrev pub tokens_within : ℕ → Bool → List ℕ → List Token
tokens_within zero inside text = []
tokens_within (suc n) inside text = with_front inside (after_blanks text) (tokens_within n)

-- the tokens of a line's text, which begins outside braces; there are at most as many as bytes
abbrev pub tokens_of : List ℕ → List Token
tokens_of text = tokens_within (length text) false text
