-- Texts that spell tokens, and how they are put together.
use Rattle.std.proofs.Common.{◌≡◌, ◌∙◌, refl, sym, ap, subst, ℕ, ◌≤◌, ◌^◌, Bool, true, false, List, [], ◌∷◌, ◌++◌, append_assoc, arith}
use Rattle.std.proofs.lemmas.Bool.{and_from, and_parts, le-leb}
use Rattle.std.proofs.lemmas.Bool.Decides.{nat_tests}
use Rattle.std.proofs.lemmas.Fmt.{decimal_is_IsNumeral, decimal_nonempty}
use Rattle.std.proofs.lemmas.Str.Parse.{digit_from_value}
use Rattle.std.proofs.lemmas.List.Folds.{list_all-append}
use Rattle.std.specs.Prelude.{codes, not, ◌&&◌, ◌==◌, nat_le}
use Rattle.std.specs.Fmt.{decimal}
use Rattle.std.specs.Int.{IsInRange}
use Rattle.std.specs.List.{list_all, prefix_len}
use Rattle.std.specs.Str.Parse.{AllDigits}
use Rattle.edit_model.specs.Surveys.{IsName, is_digit, is_letter, has_name_form}
use Rattle.rule_grammar.proofs.Keywords.{each_keyword}
use Rattle.rule_grammar.specs.Names.{IsCodeText}
use Rattle.rule_grammar.specs.Tokens.{decimals_len, is_code_byte, is_inside_after, is_word_byte, whole_numeral}
use Rattle.rule_grammar.specs.inner.Fronts.{tokens_from}
use Rattle.rule_grammar.specs.declared.token.Keyword.{Keyword}
use Rattle.rule_grammar.specs.declared.token.Numeral.TheVariants as numeral
use Rattle.rule_grammar.specs.declared.token.Token.{Token}
use Rattle.rule_grammar.specs.declared.token.Token.TheVariants as token
use Rattle.rule_grammar.proofs.TokenSteps.{keyword_text, tokens_from_blank, tokens_from_code, tokens_from_front, tokens_from_keyword, tokens_from_name}
use Rattle.rule_grammar.proofs.TokenSteps.{tokens_from_numeral}

-- ---- what a text is

-- a printable byte that begins no comment
abbrev pub is_plain : ℕ → Bool
is_plain b = nat_le 32 b && (nat_le b 126 && not (b == 35))

abbrev pub IsPlain : List ℕ → Type 0
IsPlain text = list_all is_plain text ≡ true

-- a token before this text ends where the text begins
pub record Stops (text : List ℕ) : Type 0 where
  pub word : prefix_len is_word_byte text ≡ 0
  pub code : prefix_len is_code_byte text ≡ 0
  pub digit : prefix_len is_digit text ≡ 0
  pub point : decimals_len text ≡ 0

-- a text that spells the tokens where a token before what follows it ends; it begins and ends inside braces or outside
pub record Spells (from to : Bool) (text : List ℕ) (tokens : List Token) : Type 0 where
  pub plain : IsPlain text
  pub read : (rest : List ℕ) → Stops rest → tokens_from from (text ++ rest) ≡ tokens ++ tokens_from to rest

-- a text that spells the tokens whatever follows it
pub record Opens (from to : Bool) (text : List ℕ) (tokens : List Token) : Type 0 where
  pub plain : IsPlain text
  pub read : (rest : List ℕ) → tokens_from from (text ++ rest) ≡ tokens ++ tokens_from to rest

-- a token before the text ends where it begins
pub record Leads (text : List ℕ) : Type 0 where
  pub stops : (rest : List ℕ) → Stops rest → Stops (text ++ rest)

-- ---- joined texts

pub plain-append : (a b : List ℕ) → IsPlain a → IsPlain b → IsPlain (a ++ b)
plain-append a b pa pb = list_all-append is_plain a b ∙ and_from _ _ pa pb

pub spells_then : {from mid to : Bool} {a b : List ℕ} {s u : List Token} → Spells from mid a s → Leads b → Spells mid to b u → Spells from to (a ++ b) (s ++ u)
spells_then {from} {mid} {to} {a} {b} {s} {u} first leads second = record {
  plain = plain-append a b first.plain second.plain;
  read = λ rest stop. ap (tokens_from from) (append_assoc a b rest) ∙ first.read (b ++ rest) (leads.stops rest stop)
      ∙ ap (λ (ts : List Token). s ++ ts) (second.read rest stop) ∙ sym (append_assoc s u (tokens_from to rest));
}

pub spells_opens : {from mid to : Bool} {a b : List ℕ} {s u : List Token} → Spells from mid a s → ((rest : List ℕ) → Stops (b ++ rest)) → Opens mid to b u
    → Opens from to (a ++ b) (s ++ u)
spells_opens {from} {mid} {to} {a} {b} {s} {u} first stops second = record {
  plain = plain-append a b first.plain second.plain;
  read = λ rest. ap (tokens_from from) (append_assoc a b rest) ∙ first.read (b ++ rest) (stops rest) ∙ ap (λ (ts : List Token). s ++ ts) (second.read rest)
      ∙ sym (append_assoc s u (tokens_from to rest));
}

pub opens_then : {from mid to : Bool} {a b : List ℕ} {s u : List Token} → Opens from mid a s → Spells mid to b u → Spells from to (a ++ b) (s ++ u)
opens_then {from} {mid} {to} {a} {b} {s} {u} first second = record {
  plain = plain-append a b first.plain second.plain;
  read = λ rest stop. ap (tokens_from from) (append_assoc a b rest) ∙ first.read (b ++ rest) ∙ ap (λ (ts : List Token). s ++ ts) (second.read rest stop)
      ∙ sym (append_assoc s u (tokens_from to rest));
}

pub opens_both : {from mid to : Bool} {a b : List ℕ} {s u : List Token} → Opens from mid a s → Opens mid to b u → Opens from to (a ++ b) (s ++ u)
opens_both {from} {mid} {to} {a} {b} {s} {u} first second = record {
  plain = plain-append a b first.plain second.plain;
  read = λ rest. ap (tokens_from from) (append_assoc a b rest) ∙ first.read (b ++ rest) ∙ ap (λ (ts : List Token). s ++ ts) (second.read rest)
      ∙ sym (append_assoc s u (tokens_from to rest));
}

pub spells_from : {from to : Bool} {text : List ℕ} {tokens : List Token} → Opens from to text tokens → Spells from to text tokens
spells_from opens = record { plain = opens.plain; read = λ rest _. opens.read rest }

-- an equal text, put together in another way, spells the tokens too
pub respelled : {from to : Bool} {tokens : List Token} (a b : List ℕ) → a ≡ b → Spells from to b tokens → Spells from to a tokens
respelled {from} {to} {tokens} a b same spells = subst (λ (text : List ℕ). Spells from to text tokens) (sym same) spells

-- ---- nothing, blanks and words

pub stops_nil : Stops []
stops_nil = record { word = refl; code = refl; digit = refl; point = refl }

pub stops_blank : (rest : List ℕ) → Stops (32 ∷ rest)
stops_blank rest = record { word = refl; code = refl; digit = refl; point = refl }

pub stops_close : (rest : List ℕ) → Stops (125 ∷ rest)
stops_close rest = record { word = refl; code = refl; digit = refl; point = refl }

pub leads_nil : Leads []
leads_nil = record { stops = λ rest stop. stop }

pub leads_blank : (text : List ℕ) → Leads (32 ∷ text)
leads_blank text = record { stops = λ rest _. stops_blank (text ++ rest) }

pub opens_nil : (inside : Bool) → Opens inside inside [] []
opens_nil inside = record { plain = refl; read = λ rest. refl }

pub blank_opens : (inside : Bool) → Opens inside inside (32 ∷ []) []
blank_opens inside = record { plain = refl; read = λ rest. tokens_from_blank inside 32 rest refl }

keyword_plain : (k : Keyword) → IsPlain (keyword_text k)
keyword_plain = each_keyword (λ (k : Keyword). IsPlain (keyword_text k)) refl refl refl refl refl refl refl refl refl

-- a keyword and a blank
pub keyword_opens : (k : Keyword) → Opens false false (keyword_text k ++ 32 ∷ []) (token.Keyword k ∷ [])
keyword_opens k = record {
  plain = plain-append (keyword_text k) (32 ∷ []) (keyword_plain k) refl;
  read = λ rest. ap (tokens_from false) (append_assoc (keyword_text k) (32 ∷ []) rest) ∙ tokens_from_keyword k (32 ∷ rest) refl
      ∙ ap (λ (ts : List Token). token.Keyword k ∷ ts) (tokens_from_blank false 32 rest refl);
}

-- a keyword between blanks
pub keyword_between : (k : Keyword) → Opens false false (32 ∷ (keyword_text k ++ 32 ∷ [])) (token.Keyword k ∷ [])
keyword_between k = opens_both (blank_opens false) (keyword_opens k)

-- ---- marks

pub mark_opens : (from : Bool) (b : ℕ) (t : Token) → IsPlain (b ∷ [])
    → ((rest : List ℕ) → tokens_from from (b ∷ rest) ≡ t ∷ tokens_from (is_inside_after from t) rest) → Opens from (is_inside_after from t) (b ∷ []) (t ∷ [])
mark_opens from b t plain step = record { plain = plain; read = step }

pub open_opens : Opens false true (codes "{") (token.Open ∷ [])
open_opens = mark_opens false 123 token.Open refl (λ rest. tokens_from_front false 123 rest refl)

pub close_opens : Opens true false (codes "}") (token.Close ∷ [])
close_opens = mark_opens true 125 token.Close refl (λ rest. tokens_from_front true 125 rest refl)

pub leads_close : (text : List ℕ) → Leads (125 ∷ text)
leads_close text = record { stops = λ rest _. stops_close (text ++ rest) }

pub comma_opens : Opens true true (codes ", ") (token.Comma ∷ [])
comma_opens = opens_both (mark_opens true 44 token.Comma refl (λ rest. tokens_from_front true 44 rest refl)) (blank_opens true)

pub leads_comma : (text : List ℕ) → Leads (44 ∷ text)
leads_comma text = record { stops = λ rest _. record { word = refl; code = refl; digit = refl; point = refl } }

-- ---- names, codes and numbers

pub all_weaker : (p q : ℕ → Bool) → ((b : ℕ) → p b ≡ true → q b ≡ true) → (text : List ℕ) → list_all p text ≡ true → list_all q text ≡ true
all_weaker p q weaker [] h = refl
all_weaker p q weaker (b ∷ bs) h =
    let parts = and_parts (p b) (list_all p bs) h in and_from _ _ (weaker b parts.0) (all_weaker p q weaker bs parts.1)

letter_is_plain : (b : ℕ) → is_letter b ≡ true → is_plain b ≡ true
letter_is_plain b h = grind (arith, nat_tests)

code_byte_is_plain : (b : ℕ) → is_code_byte b ≡ true → is_plain b ≡ true
code_byte_is_plain b h = grind (arith, nat_tests)

word_byte_is_plain : (b : ℕ) → is_word_byte b ≡ true → is_plain b ≡ true
word_byte_is_plain b h = grind (arith, nat_tests)

digit_is_plain : (b : ℕ) → is_digit b ≡ true → is_plain b ≡ true
digit_is_plain b h = grind (arith, nat_tests)

name_plain : (name : List ℕ) → has_name_form name ≡ true → IsPlain name
name_plain [] h = refl
name_plain (b ∷ bs) h =
    let parts = and_parts (is_letter b) (list_all is_word_byte bs) h in
    and_from _ _ (letter_is_plain b parts.0) (all_weaker is_word_byte is_plain word_byte_is_plain bs parts.1)

pub name_spells : (name : List ℕ) → IsName name → Spells false false name (token.Name name ∷ [])
name_spells name is = record { plain = name_plain name is.form; read = λ rest stop. tokens_from_name name rest is stop.word }

pub code_spells : (code : List ℕ) → IsCodeText code → Spells true true code (token.Code code ∷ [])
code_spells code is = record {
  plain = all_weaker is_code_byte is_plain code_byte_is_plain code is.0;
  read = λ rest stop. tokens_from_code code rest is stop.code;
}

digits_are_digits : (text : List ℕ) → AllDigits 10 text → list_all is_digit text ≡ true
digits_are_digits [] h = refl
digits_are_digits (b ∷ bs) h =
    let range : IsInRange 48 57 b = digit_from_value b h.0 in
    and_from _ _ (and_from _ _ (le-leb 48 b (omega arith)) (le-leb b 57 (omega arith))) (digits_are_digits bs h.1)

pub number_spells : (n : ℕ) → n ≤ 10 ^ 15 → Spells false false (decimal n) (token.Numeral (numeral.Whole n) ∷ [])
number_spells n small =
    let is = decimal_is_IsNumeral n (omega arith) in
    let digits = digits_are_digits (decimal n) is.0.1 in
    let whole : whole_numeral (decimal n) ≡ numeral.Whole n = rw (is.1, le-leb n (10 ^ 15) small) refl in
    record {
      plain = all_weaker is_digit is_plain digit_is_plain (decimal n) digits;
      read = λ rest stop. tokens_from_numeral (decimal n) rest (decimal_nonempty n (omega arith)) digits stop.digit stop.point
          ∙ ap (λ (m : _). token.Numeral m ∷ tokens_from false rest) whole;
    }
