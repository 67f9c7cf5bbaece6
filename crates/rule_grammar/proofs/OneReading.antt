-- A text falls into longest tokens in one way alone.
use Rattle.std.proofs.Common.{◌≡◌, ◌∙◌, refl, sym, ap, subst, ⊎_elim, ℕ, ◌+◌, ◌≤◌, ◌^◌, Bool, true, false, List, [], ◌∷◌, ◌++◌, length, take, append-nil, arith}
use Rattle.std.proofs.Math.Numerals.{one-add}
use Rattle.std.proofs.lemmas.Bool.{and_parts, le-leb, lt-leb, or_parts}
use Rattle.std.proofs.lemmas.Bool.Decides.{nat_tests}
use Rattle.std.proofs.lemmas.List.{append_cancel_left, drop_at, length-append, take_at}
use Rattle.std.specs.List.{list_all, prefix_len}
use Rattle.std.specs.Prelude.{◌==◌, nat_le}
use Rattle.std.specs.Str.Parse.{digits_value}
use Rattle.edit_model.specs.Surveys.{IsName, is_digit, is_letter}
use Rattle.edit_model.specs.declared.rule.Compare.{Compare as Comparison}
use Rattle.edit_model.specs.declared.rule.Compare.TheVariants.{Ge, Gt, Le, Lt, Eq}
use Rattle.rule_grammar.proofs.Keywords.{each_keyword}
use Rattle.rule_grammar.proofs.LongestTokens.{first_is_digit, front_is_longest, suc_not_zero}
use Rattle.rule_grammar.proofs.TokenSteps.{front_code_is, front_numeral_is, front_of_code, front_of_numeral, front_of_word, front_word_is, letter_is_word}
use Rattle.rule_grammar.proofs.TokenSteps.{prefix_of_run, prefix_some, tokens_from_step, word_token_is}
use Rattle.rule_grammar.specs.Names.{IsCodeText}
use Rattle.rule_grammar.specs.Spellings.{AreLongestTokens, IsDecimal, IsDigits, IsLongestToken, IsNumeralText, IsSpelled, begins_token, compare_text}
use Rattle.rule_grammar.specs.Spellings.{keyword_text}
use Rattle.rule_grammar.specs.Tokens.{Front, after_blanks, front_numeral, front_of, is_code_byte, is_inside_after, is_word_byte, whole_numeral, with_front}
use Rattle.rule_grammar.specs.inner.Fronts.{front_code, front_word, tokens_from}
use Rattle.rule_grammar.specs.declared.token.Keyword.{Keyword}
use Rattle.rule_grammar.specs.declared.token.Numeral.{Numeral}
use Rattle.rule_grammar.specs.declared.token.Numeral.TheVariants as amount
use Rattle.rule_grammar.specs.declared.token.Sign.TheVariants as sign
use Rattle.rule_grammar.specs.declared.token.Token.{Token}
use Rattle.rule_grammar.specs.declared.token.Token.TheVariants as token

-- ---- bytes spell one token at most

-- the token at the front of the bytes
abbrev IsTokenOf : Bool → Token → List ℕ → Type 0
IsTokenOf inside t [] = ⊥
IsTokenOf inside t (b ∷ bs) = (front_of inside b bs).token ≡ t

keyword_token : (k : Keyword) → IsTokenOf false (token.Keyword k) (keyword_text k)
keyword_token = each_keyword (λ (k : Keyword). IsTokenOf false (token.Keyword k) (keyword_text k)) refl refl refl refl refl refl refl refl refl

compare_token : (c : Comparison) → IsTokenOf false (token.Compare c) (compare_text c)
compare_token Ge = refl
compare_token Gt = refl
compare_token Le = refl
compare_token Lt = refl
compare_token Eq = refl

abbrev token_of : Front → Token
token_of f = f.token

name_token : (name : List ℕ) → IsName name → IsTokenOf false (token.Name name) name
name_token [] name = omega (arith, name.size.0)
name_token (b ∷ bs) name =
    let form = and_parts (is_letter b) (list_all is_word_byte bs) name.form in
    let front = ap front_word (sym (append-nil (b ∷ bs))) ∙ front_word_is (b ∷ bs) [] (rw (letter_is_word b form.0) form.1) name.size.1 refl in
    ap token_of (front_of_word b bs form.0 ∙ front) ∙ word_token_is (b ∷ bs) name.free

code_token : (code : List ℕ) → IsCodeText code → IsTokenOf true (token.Code code) code
code_token [] code = omega (arith, code.1)
code_token (b ∷ bs) code =
    let first = and_parts (is_code_byte b) (list_all is_code_byte bs) code.0 in
    let front = ap front_code (sym (append-nil (b ∷ bs))) ∙ front_code_is (b ∷ bs) [] code.0 code.2 refl in
    ap token_of (front_of_code b bs first.0 ∙ front)

digits_token : (digits : List ℕ) → IsDigits digits → IsTokenOf false (token.Numeral (whole_numeral digits)) digits
digits_token [] digits = omega (arith, digits.0)
digits_token (b ∷ bs) digits =
    let first = and_parts (is_digit b) (list_all is_digit bs) digits.1 in
    let front = ap front_numeral (sym (append-nil (b ∷ bs))) ∙ front_numeral_is (b ∷ bs) [] digits.1 refl refl in
    ap token_of (front_of_numeral b bs first.0 ∙ front)

digits_run : (ds : List ℕ) → IsDigits ds → 1 ≤ prefix_len is_digit ds
digits_run [] digits = digits.0
digits_run (d ∷ ds) digits = prefix_some is_digit d ds (and_parts (is_digit d) (list_all is_digit ds) digits.1).0

decimal_front : (whole ds : List ℕ) → IsDigits whole → IsDigits ds → (front_numeral (whole ++ 46 ∷ ds)).token ≡ token.Numeral amount.OutOfRange
decimal_front whole ds before behind =
    let d : prefix_len is_digit (whole ++ 46 ∷ ds) ≡ length whole = prefix_of_run is_digit whole (46 ∷ ds) before.1 refl in
    let run = digits_run ds behind in
    let some : (prefix_len is_digit ds == 0) ≡ false = grind (arith, nat_tests) in
    rw (d, drop_at whole (46 ∷ ds) (length whole) refl, some, one-add, suc_not_zero) refl

decimal_token : (bytes : List ℕ) → IsDecimal bytes → IsTokenOf false (token.Numeral amount.OutOfRange) bytes
decimal_token [] decimal =
    let size : 0 ≡ length decimal.whole + length (46 ∷ decimal.decimals) = ap length decimal.parts ∙ length-append decimal.whole (46 ∷ decimal.decimals) in
    omega arith
decimal_token (b ∷ bs) decimal =
    let digit = first_is_digit decimal.whole (46 ∷ decimal.decimals) b bs decimal.parts decimal.before in
    ap token_of (front_of_numeral b bs digit ∙ ap front_numeral decimal.parts) ∙ decimal_front decimal.whole decimal.decimals decimal.before decimal.behind

numeral_token : (n : Numeral) (bytes : List ℕ) → IsNumeralText n bytes → IsTokenOf false (token.Numeral n) bytes
numeral_token (amount.Whole number) bytes numeral =
    let small : nat_le (digits_value 10 bytes) (10 ^ 15) ≡ true = le-leb (digits_value 10 bytes) (10 ^ 15) (omega (arith, numeral.1, numeral.2)) in
    let same : whole_numeral bytes ≡ amount.Whole number = rw (small, numeral.1) refl in
    subst (λ (n : Numeral). IsTokenOf false (token.Numeral n) bytes) same (digits_token bytes numeral.0)
numeral_token amount.OutOfRange bytes numeral =
    let P : Numeral → Type 0 = λ n. IsTokenOf false (token.Numeral n) bytes in
    ⊎_elim (λ large. (let large_is : nat_le (digits_value 10 bytes) (10 ^ 15) ≡ false = lt-leb (digits_value 10 bytes) (10 ^ 15) large.1 in
    let same : whole_numeral bytes ≡ amount.OutOfRange = rw large_is refl in subst P same (digits_token bytes large.0)))
    (λ decimal. decimal_token bytes decimal) numeral

stray_outside : (b : ℕ) → begins_token false b ≡ false → (front_of false b []).token ≡ token.Stray
stray_outside b none =
    let l = or_parts (is_letter b) _ none in
    let d = or_parts (is_digit b) _ l.1 in
    let g = or_parts (b == 62) _ d.1 in
    let s = or_parts (b == 60) _ g.1 in
    let e = or_parts (b == 61) _ s.1 in
    let p = or_parts (b == 43) _ e.1 in
    let m = or_parts (b == 45) _ p.1 in
    let t = or_parts (b == 42) (b == 123) m.1 in
    rw (l.0, d.0, g.0, s.0, e.0, p.0, m.0, t.0, t.1) refl

stray_inside : (b : ℕ) → begins_token true b ≡ false → (front_of true b []).token ≡ token.Stray
stray_inside b none =
    let c = or_parts (is_code_byte b) _ none in
    let m = or_parts (b == 44) (b == 125) c.1 in rw (c.0, m.0, m.1) refl

bytes_token : (inside : Bool) (t : Token) (bytes : List ℕ) → IsSpelled inside t bytes → IsTokenOf inside t bytes
bytes_token false (token.Keyword k) bytes spelled = subst (IsTokenOf false (token.Keyword k)) (sym spelled) (keyword_token k)
bytes_token false (token.Name name) bytes spelled = subst (IsTokenOf false (token.Name name)) (sym spelled.0) (name_token name spelled.1)
bytes_token false (token.Numeral n) bytes spelled = numeral_token n bytes spelled
bytes_token false (token.Sign sign.Plus) bytes spelled = subst (IsTokenOf false (token.Sign sign.Plus)) (sym spelled) refl
bytes_token false (token.Sign sign.Minus) bytes spelled = subst (IsTokenOf false (token.Sign sign.Minus)) (sym spelled) refl
bytes_token false (token.Compare c) bytes spelled = subst (IsTokenOf false (token.Compare c)) (sym spelled) (compare_token c)
bytes_token false token.Times bytes spelled = subst (IsTokenOf false token.Times) (sym spelled) refl
bytes_token false token.Open bytes spelled = subst (IsTokenOf false token.Open) (sym spelled) refl
bytes_token false token.Stray bytes spelled = subst (IsTokenOf false token.Stray) (sym spelled.1) (stray_outside spelled.0 spelled.2)
bytes_token true (token.Code code) bytes spelled = subst (IsTokenOf true (token.Code code)) (sym spelled.0) (code_token code spelled.1)
bytes_token true token.Comma bytes spelled = subst (IsTokenOf true token.Comma) (sym spelled) refl
bytes_token true token.Close bytes spelled = subst (IsTokenOf true token.Close) (sym spelled) refl
bytes_token true token.Stray bytes spelled = subst (IsTokenOf true token.Stray) (sym spelled.1) (stray_inside spelled.0 spelled.2)
bytes_token _ _ bytes spelled = absurd spelled

same_token : (inside : Bool) (t u : Token) (bytes : List ℕ) → IsTokenOf inside t bytes → IsTokenOf inside u bytes → t ≡ u
same_token inside t u [] first second = absurd first
same_token inside t u (b ∷ bs) first second = sym first ∙ second

-- ---- one longest token

-- of one text, two fronts of one length are one
same_front : (front other rest after : List ℕ) → front ++ rest ≡ other ++ after → length front ≡ length other → front ≡ other
same_front front other rest after text size =
    sym (take_at front rest (length other) size) ∙ ap (λ (bs : List ℕ). take (length other) bs) text ∙ take_at other after (length other) refl

same_longest : (inside : Bool) (text : List ℕ) (t u : Token) (rest after : List ℕ) → IsLongestToken inside text t rest → IsLongestToken inside text u after
    → (t ≡ u) × (rest ≡ after)
same_longest inside text t u rest after first second =
    let above = first.longest u second.front after second.parts second.spelled in
    let below = second.longest t first.front rest first.parts first.spelled in
    let joined : first.front ++ rest ≡ second.front ++ after = sym first.parts ∙ second.parts in
    let front : first.front ≡ second.front = same_front first.front second.front rest after joined (omega arith) in
    let back : second.front ++ rest ≡ second.front ++ after = ap (λ (f : List ℕ). f ++ rest) (sym front) ∙ joined in (
      same_token inside t u second.front (subst (IsTokenOf inside t) front (bytes_token inside t first.front first.spelled))
          (bytes_token inside u second.front second.spelled),
      append_cancel_left second.front rest after back,
    )

-- ---- one list of tokens

no_longest : (inside : Bool) (t : Token) (rest : List ℕ) → IsLongestToken inside [] t rest → ⊥
no_longest inside t rest first = no_bytes first.front (bytes_token inside t first.front first.spelled) first.parts
  where
    no_bytes : (front : List ℕ) → IsTokenOf inside t front → [] ≡ front ++ rest → ⊥
    no_bytes [] of parts = of
    no_bytes (b ∷ bs) of parts = cc

one_more : (inside : Bool) (after : List ℕ) (t : Token) (rest : List ℕ) (ts : List Token) → IsLongestToken inside after t rest
    → ts ≡ tokens_from (is_inside_after inside t) rest → t ∷ ts ≡ with_front inside after tokens_from
one_more inside [] t rest ts first others = absurd (no_longest inside t rest first)
one_more inside (b ∷ bs) t rest ts first others =
    let same = same_longest inside (b ∷ bs) t (front_of inside b bs).token rest (front_of inside b bs).rest first (front_is_longest inside b bs) in
    rw (others, same.0, same.1) refl

-- what falls into longest tokens falls into these alone
pub longest_tokens_are : (inside : Bool) (text : List ℕ) (ts : List Token) → AreLongestTokens inside text ts → ts ≡ tokens_from inside text
longest_tokens_are inside text [] end = sym (tokens_from_step inside text ∙ ap (λ (after : List ℕ). with_front inside after tokens_from) end)
longest_tokens_are inside text (t ∷ ts) more =
    one_more inside (after_blanks text) t more.0 ts more.1 (longest_tokens_are (is_inside_after inside t) more.0 ts more.2) ∙ sym (tokens_from_step inside text)
