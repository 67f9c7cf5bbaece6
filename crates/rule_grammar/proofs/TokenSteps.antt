-- How the tokens of a text begin: with those of its first blank left out, or with the token at its front.
use Rattle.std.proofs.Common.{◌≡◌, ◌∙◌, sym, ap, refl, ℕ, zero, suc, ◌≤◌, Bool, true, false, List, [], ◌∷◌, ◌++◌, length, drop, arith}
use Rattle.std.proofs.lemmas.Bool.{and_parts, cond_both, false_from_ne_true}
use Rattle.std.proofs.lemmas.Bool.Decides.{nat_tests}
use Rattle.std.proofs.lemmas.List.{drop_at, length-drop, take_at}
use Rattle.std.proofs.lemmas.Slice.Eq.{bytes_eq-Decides}
use Rattle.std.proofs.Math.Numerals.{one-add}
use Rattle.std.specs.List.{list_all, prefix_len}
use Rattle.std.specs.Prelude.{◌≢◌, ◌==◌, All, codes}
use Rattle.std.specs.Str.{bytes_eq}
use Rattle.edit_model.specs.Surveys.{IsName, is_digit, is_letter, reserved_words}
use Rattle.edit_model.specs.declared.rule.Compare.{Compare as Comparison}
use Rattle.rule_grammar.proofs.Keywords.{each_keyword}
use Rattle.rule_grammar.specs.Names.{IsCodeText}
pub use Rattle.rule_grammar.specs.Spellings.{keyword_text}
use Rattle.rule_grammar.specs.Tokens.{Front, after_blanks, decimals_len, front_compare, front_numeral, front_of, is_blank, is_code_byte, is_inside_after}
use Rattle.rule_grammar.specs.Tokens.{is_word_byte, tokens_within, whole_numeral, with_front, word_token}
use Rattle.rule_grammar.specs.inner.Fronts.{code_len, front_code, front_word, tokens_from, word_len}
use Rattle.rule_grammar.specs.declared.token.Keyword.{Keyword}
use Rattle.rule_grammar.specs.declared.token.Keyword.TheVariants as keyword
use Rattle.rule_grammar.specs.declared.token.Token.{Token}
use Rattle.rule_grammar.specs.declared.token.Token.TheVariants as token

-- ---- what follows a token is shorter than the text

abbrev LeavesAtMost : ℕ → Front → Type 0
LeavesAtMost n f = length f.rest ≤ n

-- a front that takes one byte at least
drop_some : (n b : ℕ) (bs : List ℕ) → 1 ≤ n → length (drop n (b ∷ bs)) ≤ length bs
drop_some n b bs some = omega (arith, length-drop n (b ∷ bs))

pub prefix_some : (p : ℕ → Bool) (b : ℕ) (bs : List ℕ) → p b ≡ true → 1 ≤ prefix_len p (b ∷ bs)
prefix_some p b bs h = rw h (omega arith)

pub letter_is_word : (b : ℕ) → is_letter b ≡ true → is_word_byte b ≡ true
letter_is_word b h = rw h refl

front_word_rest : (b : ℕ) (bs : List ℕ) → is_letter b ≡ true → LeavesAtMost (length bs) (front_word (b ∷ bs))
front_word_rest b bs h =
    let some = prefix_some is_word_byte b bs (letter_is_word b h) in drop_some (word_len (b ∷ bs)) b bs (omega arith)

front_code_rest : (b : ℕ) (bs : List ℕ) → is_code_byte b ≡ true → LeavesAtMost (length bs) (front_code (b ∷ bs))
front_code_rest b bs h =
    let some = prefix_some is_code_byte b bs h in drop_some (code_len (b ∷ bs)) b bs (omega arith)

front_numeral_rest : (b : ℕ) (bs : List ℕ) → is_digit b ≡ true → LeavesAtMost (length bs) (front_numeral (b ∷ bs))
front_numeral_rest b bs h =
    let digits = prefix_len is_digit (b ∷ bs) in
    let decimals = decimals_len (drop digits (b ∷ bs)) in
    let short : length (drop digits (b ∷ bs)) ≤ length bs = drop_some digits b bs (prefix_some is_digit b bs h) in
    cond_both (decimals == 0) _ _ (LeavesAtMost (length bs)) (λ _. short) (λ _. omega (arith, length-drop decimals (drop digits (b ∷ bs))))

front_compare_rest : (wide strict : Comparison) (bs : List ℕ) → LeavesAtMost (length bs) (front_compare wide strict bs)
front_compare_rest wide strict [] = omega arith
front_compare_rest wide strict (b ∷ bs) = cond_both (b == 61) _ _ (LeavesAtMost (length (b ∷ bs))) (λ _. omega arith) (λ _. omega arith)

pub front_of_rest : (inside : Bool) (b : ℕ) (bs : List ℕ) → length (front_of inside b bs).rest ≤ length bs
front_of_rest true b bs = cond_both (is_code_byte b) _ _ (LeavesAtMost (length bs)) (front_code_rest b bs) (λ _. omega arith)
front_of_rest false b bs =
    cond_both (is_letter b) _ _ (LeavesAtMost (length bs)) (front_word_rest b bs) (λ _.
    cond_both (is_digit b) _ _ (LeavesAtMost (length bs)) (front_numeral_rest b bs) (λ _.
    cond_both (b == 62) _ _ (LeavesAtMost (length bs)) (λ _. front_compare_rest _ _ bs) (λ _.
    cond_both (b == 60) _ _ (LeavesAtMost (length bs)) (λ _. front_compare_rest _ _ bs) (λ _. omega arith))))

-- ---- a text has no more tokens than bytes

pub after_blanks_length : (text : List ℕ) → length (after_blanks text) ≤ length text
after_blanks_length text = omega (arith, length-drop (prefix_len is_blank text) text)

with_front_same : (m n : ℕ) (inside : Bool) (text : List ℕ) → length text ≤ suc m → length text ≤ suc n
    → ((inside : Bool) (rest : List ℕ) → length rest ≤ m → length rest ≤ n → tokens_within m inside rest ≡ tokens_within n inside rest)
    → with_front inside text (tokens_within m) ≡ with_front inside text (tokens_within n)
with_front_same m n inside [] few_m few_n more = refl
with_front_same m n inside (b ∷ bs) few_m few_n more =
    let f = front_of inside b bs in
    let short : length f.rest ≤ length bs = front_of_rest inside b bs in
    ap (λ (ts : List Token). f.token ∷ ts) (more (is_inside_after inside f.token) f.rest (omega arith) (omega arith))

no_tokens : (n : ℕ) (inside : Bool) (text : List ℕ) → length text ≤ 0 → tokens_within n inside text ≡ []
no_tokens zero inside text h = refl
no_tokens (suc n) inside [] h = refl
no_tokens (suc n) inside (b ∷ bs) h = absurd (omega arith)

pub tokens_within_same : (m n : ℕ) (inside : Bool) (text : List ℕ) → length text ≤ m → length text ≤ n
    → tokens_within m inside text ≡ tokens_within n inside text
tokens_within_same zero n inside text few_m few_n = sym (no_tokens n inside text few_m)
tokens_within_same (suc m) zero inside text few_m few_n = no_tokens (suc m) inside text few_n
tokens_within_same (suc m) (suc n) inside text few_m few_n =
    let short = after_blanks_length text in
    with_front_same m n inside (after_blanks text) (omega arith) (omega arith) (tokens_within_same m n)

pub tokens_within_enough : (n : ℕ) (inside : Bool) (text : List ℕ) → length text ≤ n → tokens_within n inside text ≡ tokens_from inside text
tokens_within_enough n inside text few = tokens_within_same n (length text) inside text few (omega arith)

-- ---- one step

with_front_all : (n : ℕ) (inside : Bool) (text : List ℕ) → length text ≤ suc n → with_front inside text (tokens_within n) ≡ with_front inside text tokens_from
with_front_all n inside [] few = refl
with_front_all n inside (b ∷ bs) few =
    let f = front_of inside b bs in
    let short : length f.rest ≤ length bs = front_of_rest inside b bs in
    ap (λ (ts : List Token). f.token ∷ ts) (tokens_within_enough n (is_inside_after inside f.token) f.rest (omega arith))

-- the token at the front of what follows the blanks, and then the tokens of what follows it
pub tokens_from_step : (inside : Bool) (text : List ℕ) → tokens_from inside text ≡ with_front inside (after_blanks text) tokens_from
tokens_from_step inside [] = refl
tokens_from_step inside (b ∷ bs) = with_front_all (length bs) inside (after_blanks (b ∷ bs)) (after_blanks_length (b ∷ bs))

pub tokens_from_nil : (inside : Bool) → tokens_from inside [] ≡ []
tokens_from_nil inside = refl

-- a blank at the front means nothing
pub tokens_from_blank : (inside : Bool) (b : ℕ) (bs : List ℕ) → is_blank b ≡ true → tokens_from inside (b ∷ bs) ≡ tokens_from inside bs
tokens_from_blank inside b bs blank =
    let skip : after_blanks (b ∷ bs) ≡ after_blanks bs = rw blank (rw one-add refl) in
    tokens_from_step inside (b ∷ bs) ∙ ap (λ (text : List ℕ). with_front inside text tokens_from) skip ∙ sym (tokens_from_step inside bs)

-- another byte begins a token
pub tokens_from_front : (inside : Bool) (b : ℕ) (bs : List ℕ) → is_blank b ≡ false
    → tokens_from inside (b ∷ bs) ≡ (front_of inside b bs).token ∷ tokens_from (is_inside_after inside (front_of inside b bs).token) (front_of inside b bs).rest
tokens_from_front inside b bs plain =
    let all : after_blanks (b ∷ bs) ≡ b ∷ bs = rw plain refl in
    tokens_from_step inside (b ∷ bs) ∙ ap (λ (text : List ℕ). with_front inside text tokens_from) all

-- ---- a word, a code or a numeral at the front of a text that goes on with none of its bytes

-- all bytes of a run pass, and none of the bytes that follow it at once
pub prefix_of_run : (p : ℕ → Bool) (run rest : List ℕ) → list_all p run ≡ true → prefix_len p rest ≡ 0 → prefix_len p (run ++ rest) ≡ length run
prefix_of_run p [] rest all ends = ends
prefix_of_run p (b ∷ bs) rest all ends =
    let parts = and_parts (p b) (list_all p bs) all in rw (parts.0, prefix_of_run p bs rest parts.1 ends) (omega arith)

pub front_word_is : (word rest : List ℕ) → list_all is_word_byte word ≡ true → length word ≤ 32 → prefix_len is_word_byte rest ≡ 0
    → front_word (word ++ rest) ≡ record { token = word_token word; rest = rest }
front_word_is word rest all short ends =
    let n : word_len (word ++ rest) ≡ length word = omega (arith, prefix_of_run is_word_byte word rest all ends) in
    rw (n, take_at word rest (length word) refl, drop_at word rest (length word) refl) refl

pub front_code_is : (code rest : List ℕ) → list_all is_code_byte code ≡ true → length code ≤ 32 → prefix_len is_code_byte rest ≡ 0
    → front_code (code ++ rest) ≡ record { token = token.Code code; rest = rest }
front_code_is code rest all short ends =
    let n : code_len (code ++ rest) ≡ length code = omega (arith, prefix_of_run is_code_byte code rest all ends) in
    rw (n, take_at code rest (length code) refl, drop_at code rest (length code) refl) refl

pub front_numeral_is : (digits rest : List ℕ) → list_all is_digit digits ≡ true → prefix_len is_digit rest ≡ 0 → decimals_len rest ≡ 0
    → front_numeral (digits ++ rest) ≡ record { token = token.Numeral (whole_numeral digits); rest = rest }
front_numeral_is digits rest all ends no_point =
    let n : prefix_len is_digit (digits ++ rest) ≡ length digits = prefix_of_run is_digit digits rest all ends in
    rw (n, take_at digits rest (length digits) refl, drop_at digits rest (length digits) refl, no_point) refl

-- ---- words

-- what a word is as a token: one of the nine, or a name
word_token_by : (P : Token → Type 0) (word : List ℕ) → ((k : Keyword) → P (token.Keyword k)) → P (token.Name word) → P (word_token word)
word_token_by P word at_keyword at_name =
    cond_both (bytes_eq word (codes "number")) _ _ P (λ _. at_keyword keyword.Number) (λ _.
    cond_both (bytes_eq word (codes "code")) _ _ P (λ _. at_keyword keyword.Code) (λ _.
    cond_both (bytes_eq word (codes "weight")) _ _ P (λ _. at_keyword keyword.Weight) (λ _.
    cond_both (bytes_eq word (codes "scale")) _ _ P (λ _. at_keyword keyword.Scale) (λ _.
    cond_both (bytes_eq word (codes "in")) _ _ P (λ _. at_keyword keyword.In) (λ _.
    cond_both (bytes_eq word (codes "not")) _ _ P (λ _. at_keyword keyword.Not) (λ _.
    cond_both (bytes_eq word (codes "if")) _ _ P (λ _. at_keyword keyword.If) (λ _.
    cond_both (bytes_eq word (codes "and")) _ _ P (λ _. at_keyword keyword.And) (λ _.
    cond_both (bytes_eq word (codes "then")) _ _ P (λ _. at_keyword keyword.Then) (λ _. at_name)))))))))

-- a word that is none of the nine is a name
pub word_token_is : (word : List ℕ) → All (λ w. word ≢ w) reserved_words → word_token word ≡ token.Name word
word_token_is word free =
    let other = λ (w : List ℕ) (differs : word ≢ w). false_from_ne_true (bytes_eq word w) (λ same. differs ((bytes_eq-Decides word w).0 same)) in
    rw (
      other (codes "number") (free 0 [] (omega arith)),
      other (codes "code") (free 1 [] (omega arith)),
      other (codes "weight") (free 2 [] (omega arith)),
      other (codes "scale") (free 3 [] (omega arith)),
      other (codes "in") (free 4 [] (omega arith)),
      other (codes "not") (free 5 [] (omega arith)),
      other (codes "if") (free 6 [] (omega arith)),
      other (codes "and") (free 7 [] (omega arith)),
      other (codes "then") (free 8 [] (omega arith)),
    ) refl

pub word_token_keyword : (k : Keyword) → word_token (keyword_text k) ≡ token.Keyword k
word_token_keyword = each_keyword (λ (k : Keyword). word_token (keyword_text k) ≡ token.Keyword k) refl refl refl refl refl refl refl refl refl

-- ---- the tokens of a text that begins with a word, a code or a numeral

-- bytes of these kinds are no blanks, and a digit is no letter
letter_is_no_blank : (b : ℕ) → is_letter b ≡ true → is_blank b ≡ false
letter_is_no_blank b h = grind (arith, nat_tests)

digit_is_no_blank : (b : ℕ) → is_digit b ≡ true → is_blank b ≡ false
digit_is_no_blank b h = grind (arith, nat_tests)

digit_is_no_letter : (b : ℕ) → is_digit b ≡ true → is_letter b ≡ false
digit_is_no_letter b h = grind (arith, nat_tests)

code_byte_is_no_blank : (b : ℕ) → is_code_byte b ≡ true → is_blank b ≡ false
code_byte_is_no_blank b h = grind (arith, nat_tests)

-- no word opens or closes braces
word_stays : (word : List ℕ) → is_inside_after false (word_token word) ≡ false
word_stays word = word_token_by (λ t. is_inside_after false t ≡ false) word (λ _. refl) refl

-- the front of a text whose first byte is of one of these kinds
pub front_of_word : (b : ℕ) (bs : List ℕ) → is_letter b ≡ true → front_of false b bs ≡ front_word (b ∷ bs)
front_of_word b bs letter = rw letter refl

pub front_of_numeral : (b : ℕ) (bs : List ℕ) → is_digit b ≡ true → front_of false b bs ≡ front_numeral (b ∷ bs)
front_of_numeral b bs digit = rw (digit_is_no_letter b digit, digit) refl

pub front_of_code : (b : ℕ) (bs : List ℕ) → is_code_byte b ≡ true → front_of true b bs ≡ front_code (b ∷ bs)
front_of_code b bs in_code = rw in_code refl

-- a text whose front is known
tokens_from_known : (inside : Bool) (b : ℕ) (bs : List ℕ) (t : Token) (rest : List ℕ) → is_blank b ≡ false
    → front_of inside b bs ≡ record { token = t; rest = rest }
    → is_inside_after inside t ≡ inside → tokens_from inside (b ∷ bs) ≡ t ∷ tokens_from inside rest
tokens_from_known inside b bs t rest plain front stays =
    tokens_from_front inside b bs plain ∙ ap (λ (f : Front). f.token ∷ tokens_from (is_inside_after inside f.token) f.rest) front
    ∙ ap (λ (i : Bool). t ∷ tokens_from i rest) stays

pub tokens_from_word : (b : ℕ) (bs rest : List ℕ) → is_letter b ≡ true → list_all is_word_byte bs ≡ true → length (b ∷ bs) ≤ 32
    → prefix_len is_word_byte rest ≡ 0
    → tokens_from false ((b ∷ bs) ++ rest) ≡ word_token (b ∷ bs) ∷ tokens_from false rest
tokens_from_word b bs rest letter all short ends =
    let word : list_all is_word_byte (b ∷ bs) ≡ true = rw (letter_is_word b letter) all in
    tokens_from_known false b (bs ++ rest) (word_token (b ∷ bs)) rest (letter_is_no_blank b letter)
    (front_of_word b (bs ++ rest) letter ∙ front_word_is (b ∷ bs) rest word short ends) (word_stays (b ∷ bs))

pub tokens_from_name : (name rest : List ℕ) → IsName name → prefix_len is_word_byte rest ≡ 0
    → tokens_from false (name ++ rest) ≡ token.Name name ∷ tokens_from false rest
tokens_from_name [] rest name ends = absurd (omega (arith, name.size.0))
tokens_from_name (b ∷ bs) rest name ends =
    let form = and_parts (is_letter b) (list_all is_word_byte bs) name.form in
    tokens_from_word b bs rest form.0 form.1 name.size.1 ends ∙ ap (λ (t : Token). t ∷ tokens_from false rest) (word_token_is (b ∷ bs) name.free)

pub tokens_from_keyword : (k : Keyword) (rest : List ℕ) → prefix_len is_word_byte rest ≡ 0
    → tokens_from false (keyword_text k ++ rest) ≡ token.Keyword k ∷ tokens_from false rest
tokens_from_keyword keyword.Number rest ends = tokens_from_word 110 (codes "umber") rest refl refl (omega arith) ends
tokens_from_keyword keyword.Code rest ends = tokens_from_word 99 (codes "ode") rest refl refl (omega arith) ends
tokens_from_keyword keyword.Weight rest ends = tokens_from_word 119 (codes "eight") rest refl refl (omega arith) ends
tokens_from_keyword keyword.Scale rest ends = tokens_from_word 115 (codes "cale") rest refl refl (omega arith) ends
tokens_from_keyword keyword.In rest ends = tokens_from_word 105 (codes "n") rest refl refl (omega arith) ends
tokens_from_keyword keyword.Not rest ends = tokens_from_word 110 (codes "ot") rest refl refl (omega arith) ends
tokens_from_keyword keyword.If rest ends = tokens_from_word 105 (codes "f") rest refl refl (omega arith) ends
tokens_from_keyword keyword.And rest ends = tokens_from_word 97 (codes "nd") rest refl refl (omega arith) ends
tokens_from_keyword keyword.Then rest ends = tokens_from_word 116 (codes "hen") rest refl refl (omega arith) ends

pub tokens_from_code : (code rest : List ℕ) → IsCodeText code → prefix_len is_code_byte rest ≡ 0
    → tokens_from true (code ++ rest) ≡ token.Code code ∷ tokens_from true rest
tokens_from_code [] rest code ends = absurd (omega (arith, code.1))
tokens_from_code (b ∷ bs) rest code ends =
    let first = and_parts (is_code_byte b) (list_all is_code_byte bs) code.0 in
    tokens_from_known true b (bs ++ rest) (token.Code (b ∷ bs)) rest (code_byte_is_no_blank b first.0)
    (front_of_code b (bs ++ rest) first.0 ∙ front_code_is (b ∷ bs) rest code.0 code.2 ends) refl

pub tokens_from_numeral : (digits rest : List ℕ) → 1 ≤ length digits → list_all is_digit digits ≡ true → prefix_len is_digit rest ≡ 0 → decimals_len rest ≡ 0
    → tokens_from false (digits ++ rest) ≡ token.Numeral (whole_numeral digits) ∷ tokens_from false rest
tokens_from_numeral [] rest some all ends no_point = absurd (omega arith)
tokens_from_numeral (b ∷ bs) rest some all ends no_point =
    let first = and_parts (is_digit b) (list_all is_digit bs) all in
    tokens_from_known false b (bs ++ rest) (token.Numeral (whole_numeral (b ∷ bs))) rest (digit_is_no_blank b first.0)
    (front_of_numeral b (bs ++ rest) first.0 ∙ front_numeral_is (b ∷ bs) rest all ends no_point) refl
