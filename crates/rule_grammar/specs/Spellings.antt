-- Which bytes spell which token, and how a text falls into tokens: each is the longest that can be read.
use Rattle.std.specs.Prelude.{◌≡◌, ℕ, ◌<◌, ◌≤◌, ◌^◌, ◌==◌, ◌||◌, ◌⊎◌, Bool, true, false, List, [], ◌∷◌, ◌++◌, length, codes, IsTrue}
use Rattle.std.specs.Prelude.{IsFalse}
use Rattle.std.specs.List.{list_all}
use Rattle.std.specs.Str.Parse.{digits_value}
use Rattle.edit_model.specs.Surveys.{IsName, is_digit, is_letter}
use Rattle.edit_model.specs.declared.rule.Compare.{Compare as Comparison}
use Rattle.edit_model.specs.declared.rule.Compare.TheVariants.{Ge, Gt, Le, Lt, Eq}
use Rattle.rule_grammar.specs.Names.{IsCodeText}
use Rattle.rule_grammar.specs.Tokens.{after_blanks, is_code_byte, is_inside_after}
use Rattle.rule_grammar.specs.declared.token.Keyword.{Keyword as Word}
use Rattle.rule_grammar.specs.declared.token.Keyword.TheVariants as keyword
use Rattle.rule_grammar.specs.declared.token.Numeral.{Numeral as Amount}
use Rattle.rule_grammar.specs.declared.token.Numeral.TheVariants as amount
use Rattle.rule_grammar.specs.declared.token.Sign.{Sign as Direction}
use Rattle.rule_grammar.specs.declared.token.Sign.TheVariants as sign
use Rattle.rule_grammar.specs.declared.token.Token.{Token}
use Rattle.rule_grammar.specs.declared.token.Token.TheVariants as token

-- the bytes of a keyword
abbrev pub keyword_text : Word → List ℕ
keyword_text keyword.Number = codes "number"
keyword_text keyword.Code = codes "code"
keyword_text keyword.Weight = codes "weight"
keyword_text keyword.Scale = codes "scale"
keyword_text keyword.In = codes "in"
keyword_text keyword.Not = codes "not"
keyword_text keyword.If = codes "if"
keyword_text keyword.And = codes "and"
keyword_text keyword.Then = codes "then"

-- the bytes of a comparison
abbrev pub compare_text : Comparison → List ℕ
compare_text Ge = codes ">="
compare_text Gt = codes ">"
compare_text Le = codes "<="
compare_text Lt = codes "<"
compare_text Eq = codes "="

-- the byte of a sign
abbrev pub sign_text : Direction → List ℕ
sign_text sign.Plus = codes "+"
sign_text sign.Minus = codes "-"

-- one digit or more
abbrev pub IsDigits : List ℕ → Type 0
IsDigits bytes = (1 ≤ length bytes) × IsTrue (list_all is_digit bytes)

-- digits, a point and digits
pub record IsDecimal (bytes : List ℕ) : Type 0 where
  pub whole : List ℕ
  pub decimals : List ℕ
  pub parts : bytes ≡ whole ++ 46 ∷ decimals
  pub before : IsDigits whole
  pub behind : IsDigits decimals

-- the digits of a whole number at most 10^15; or of a greater one, or a numeral with a point
abbrev pub IsNumeralText : Amount → List ℕ → Type 0
IsNumeralText (amount.Whole number) bytes = IsDigits bytes × (number ≡ digits_value 10 bytes) × (number ≤ 10 ^ 15)
IsNumeralText amount.OutOfRange bytes = (IsDigits bytes × (10 ^ 15 < digits_value 10 bytes)) ⊎ IsDecimal bytes

-- a mark outside braces begins with `>`, `<`, `=`, `+`, `-`, `*` or `{`
abbrev pub begins_mark : ℕ → Bool
begins_mark b = (b == 62) || ((b == 60) || ((b == 61) || ((b == 43) || ((b == 45) || ((b == 42) || (b == 123))))))

-- whether a token outside braces, or inside, begins with the byte
abbrev pub begins_token : Bool → ℕ → Bool
begins_token false b = is_letter b || (is_digit b || begins_mark b)
begins_token true b = is_code_byte b || ((b == 44) || (b == 125))

-- one byte that begins no token
abbrev pub IsStray : Bool → List ℕ → Type 0
IsStray inside bytes = (b : ℕ) × (bytes ≡ b ∷ []) × IsFalse (begins_token inside b)

-- the bytes spell the token, outside braces or inside
abbrev pub IsSpelled : Bool → Token → List ℕ → Type 0
IsSpelled false (token.Keyword k) bytes = bytes ≡ keyword_text k
IsSpelled false (token.Name name) bytes = (bytes ≡ name) × IsName name
IsSpelled false (token.Numeral n) bytes = IsNumeralText n bytes
IsSpelled false (token.Sign s) bytes = bytes ≡ sign_text s
IsSpelled false (token.Compare c) bytes = bytes ≡ compare_text c
IsSpelled false token.Times bytes = bytes ≡ codes "*"
IsSpelled false token.Open bytes = bytes ≡ codes "{"
IsSpelled false token.Stray bytes = IsStray false bytes
IsSpelled true (token.Code code) bytes = (bytes ≡ code) × IsCodeText code
IsSpelled true token.Comma bytes = bytes ≡ codes ","
IsSpelled true token.Close bytes = bytes ≡ codes "}"
IsSpelled true token.Stray bytes = IsStray true bytes
IsSpelled _ _ bytes = ⊥

-- the token is spelled by the front of the text before the rest, and no longer front of the text spells a token
pub record IsLongestToken (inside : Bool) (text : List ℕ) (t : Token) (rest : List ℕ) : Type 0 where
  pub front : List ℕ
  pub parts : text ≡ front ++ rest
  pub spelled : IsSpelled inside t front
  pub longest : (u : Token) (other end : List ℕ) → text ≡ other ++ end → IsSpelled inside u other → length other ≤ length front

-- the tokens of a text, from left to right, with blanks between them that mean nothing: each is the longest that can be read
abbrev pub AreLongestTokens : Bool → List ℕ → List Token → Type 0
AreLongestTokens inside text [] = after_blanks text ≡ []
AreLongestTokens inside text (t ∷ ts) =
    (rest : List ℕ) × IsLongestToken inside (after_blanks text) t rest × AreLongestTokens (is_inside_after inside t) rest ts
