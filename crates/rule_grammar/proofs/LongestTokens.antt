-- Each token of a text is spelled by the bytes that it takes, and no longer front of what is left spells a token.
use Rattle.std.proofs.Common.{◌≡◌, ◌∙◌, refl, sym, ap, subst, inl, inr, ⊎_elim, ◌⊎◌, ℕ, zero, suc, ◌+◌, ◌≤◌, ◌^◌, Bool, true, false, List, [], ◌∷◌, ◌++◌}
use Rattle.std.proofs.Common.{length, take, drop, arith}
use Rattle.std.proofs.Math.Numerals.{one-add}
use Rattle.std.proofs.lemmas.Bool.{and_parts, cond_both, eqb-false, eqb-true, leb-false, leb-true, true≢false}
use Rattle.std.proofs.lemmas.Bool.Decides.{nat_tests}
use Rattle.std.proofs.lemmas.List.{append_assoc, drop_at, length-append, length-drop, length-take, take-append-drop}
use Rattle.std.proofs.lemmas.List.Folds.{length-prefix_len}
use Rattle.std.proofs.lemmas.List.Sums.{prefix_len-le-length}
use Rattle.std.proofs.lemmas.Slice.Eq.{bytes_eq-Decides}
use Rattle.std.specs.List.{list_all, prefix_len}
use Rattle.std.specs.Prelude.{◌==◌, codes, nat_le}
use Rattle.std.specs.Str.{bytes_eq}
use Rattle.std.specs.Str.Parse.{digits_value}
use Rattle.edit_model.proofs.NameLemmas.{none_of_words}
use Rattle.edit_model.specs.Surveys.{IsName, is_digit, is_letter, has_name_form, reserved_words}
use Rattle.edit_model.specs.declared.rule.Compare.{Compare as Comparison}
use Rattle.edit_model.specs.declared.rule.Compare.TheVariants.{Ge, Gt, Le, Lt, Eq}
use Rattle.rule_grammar.proofs.Runs.{prefix_passes, run_passes}
use Rattle.rule_grammar.proofs.TokenSteps.{after_blanks_length, front_of_code, front_of_numeral, front_of_rest, front_of_word, letter_is_word, prefix_of_run}
use Rattle.rule_grammar.proofs.TokenSteps.{prefix_some}
use Rattle.rule_grammar.specs.Names.{IsCodeText}
use Rattle.rule_grammar.specs.Spellings.{AreLongestTokens, IsDecimal, IsDigits, IsLongestToken, IsNumeralText, IsSpelled, compare_text, keyword_text}
use Rattle.rule_grammar.specs.Tokens.{Front, after_blanks, decimals_len, front_compare, front_numeral, front_of, is_code_byte, is_inside_after, is_word_byte}
use Rattle.rule_grammar.specs.Tokens.{list_mark_token, mark_token, tokens_within, whole_numeral, with_front, word_token}
use Rattle.rule_grammar.specs.inner.Fronts.{code_len, front_code, front_word, tokens_from, word_len}
use Rattle.rule_grammar.specs.declared.token.Keyword.{Keyword}
use Rattle.rule_grammar.specs.declared.token.Keyword.TheVariants as keyword
use Rattle.rule_grammar.specs.declared.token.Numeral.{Numeral}
use Rattle.rule_grammar.specs.declared.token.Numeral.TheVariants as amount
use Rattle.rule_grammar.specs.declared.token.Sign.TheVariants as sign
use Rattle.rule_grammar.specs.declared.token.Token.{Token}
use Rattle.rule_grammar.specs.declared.token.Token.TheVariants as token

-- ---- the token at the front is spelled by the bytes before the rest

abbrev IsSpelledFront : Bool → List ℕ → Front → Type 0
IsSpelledFront inside text f = (front : List ℕ) × (text ≡ front ++ f.rest) × IsSpelled inside f.token front

-- words
word_spelled : (word : List ℕ) → (1 ≤ length word) × (length word ≤ 32) → has_name_form word ≡ true → IsSpelled false (word_token word) word
word_spelled word size form =
    let P : Token → Type 0 = λ t. IsSpelled false t word in
    let is = λ (w : List ℕ) (same : bytes_eq word w ≡ true). (bytes_eq-Decides word w).0 same in
    cond_both (bytes_eq word (codes "number")) _ _ P (is (codes "number")) (λ a.
    cond_both (bytes_eq word (codes "code")) _ _ P (is (codes "code")) (λ b.
    cond_both (bytes_eq word (codes "weight")) _ _ P (is (codes "weight")) (λ c.
    cond_both (bytes_eq word (codes "scale")) _ _ P (is (codes "scale")) (λ d.
    cond_both (bytes_eq word (codes "in")) _ _ P (is (codes "in")) (λ e.
    cond_both (bytes_eq word (codes "not")) _ _ P (is (codes "not")) (λ f.
    cond_both (bytes_eq word (codes "if")) _ _ P (is (codes "if")) (λ g.
    cond_both (bytes_eq word (codes "and")) _ _ P (is (codes "and")) (λ h.
    cond_both (bytes_eq word (codes "then")) _ _ P (is (codes "then")) (λ i.
    (refl, record { size = size; form = form; free = (none_of_words word reserved_words).0 (rw (a, b, c, d, e, f, g, h, i) refl) }))))))))))

taken_word_spelled : (n b : ℕ) (bs : List ℕ) → 1 ≤ n → n ≤ 32 → n ≤ prefix_len is_word_byte (b ∷ bs) → is_letter b ≡ true
    → IsSpelled false (word_token (take n (b ∷ bs))) (take n (b ∷ bs))
taken_word_spelled zero b bs some short run letter = absurd (omega arith)
taken_word_spelled (suc n) b bs some short run letter =
    let all = and_parts (is_word_byte b) (list_all is_word_byte (take n bs)) (run_passes is_word_byte (suc n) (b ∷ bs) run) in
    let size : length (take (suc n) (b ∷ bs)) ≤ 32 = omega (arith, length-take (suc n) (b ∷ bs)) in
    word_spelled (b ∷ take n bs) (omega arith, size) (rw letter all.1)

front_word_spelled : (b : ℕ) (bs : List ℕ) → is_letter b ≡ true → IsSpelledFront false (b ∷ bs) (front_word (b ∷ bs))
front_word_spelled b bs letter =
    let some = prefix_some is_word_byte b bs (letter_is_word b letter) in
    let n = word_len (b ∷ bs) in
    (take n (b ∷ bs), sym (take-append-drop n (b ∷ bs)), taken_word_spelled n b bs (omega arith) (omega arith) (omega arith) letter)

-- codes
front_code_spelled : (b : ℕ) (bs : List ℕ) → is_code_byte b ≡ true → IsSpelledFront true (b ∷ bs) (front_code (b ∷ bs))
front_code_spelled b bs in_code =
    let some = prefix_some is_code_byte b bs in_code in
    let short = prefix_len-le-length is_code_byte (b ∷ bs) in
    let n = code_len (b ∷ bs) in
    let size : length (take n (b ∷ bs)) ≡ n = omega (arith, length-take n (b ∷ bs)) in
    (take n (b ∷ bs), sym (take-append-drop n (b ∷ bs)), (refl, (run_passes is_code_byte n (b ∷ bs) (omega arith), omega arith, omega arith)))

-- numerals
whole_spelled : (digits : List ℕ) → IsDigits digits → IsNumeralText (whole_numeral digits) digits
whole_spelled digits all = cond_both (nat_le (digits_value 10 digits) (10 ^ 15)) _ _ (λ n. IsNumeralText n digits)
    (λ small. (all, refl, leb-true (digits_value 10 digits) (10 ^ 15) small)) (λ large. inl (all, leb-false (digits_value 10 digits) (10 ^ 15) large))

prefix_is_digits : (bs : List ℕ) → 1 ≤ prefix_len is_digit bs → IsDigits (take (prefix_len is_digit bs) bs)
prefix_is_digits bs some = (omega (arith, length-prefix_len is_digit bs), prefix_passes is_digit bs)

-- a point and the digits behind it
abbrev IsPointed : List ℕ → Type 0
IsPointed bytes = (ds : List ℕ) × (bytes ≡ 46 ∷ ds) × IsDigits ds

point_and_digits : (b : ℕ) (bs : List ℕ) → b ≡ 46 → (prefix_len is_digit bs == 0) ≡ false → IsPointed (take (1 + prefix_len is_digit bs) (b ∷ bs))
point_and_digits b bs point some =
    let n = prefix_len is_digit bs in
    let above : 1 ≤ n = grind (arith, eqb-false n 0 some) in
    (take n bs, rw (one-add, point) refl, prefix_is_digits bs above)

decimals_pointed : (rest : List ℕ) → (decimals_len rest == 0) ≡ false → IsPointed (take (decimals_len rest) rest)
decimals_pointed [] some = absurd (true≢false some)
decimals_pointed (b ∷ bs) some = cond_both (b == 46) _ _ (λ m. (m == 0) ≡ false → IsPointed (take m (b ∷ bs)))
    (λ point. cond_both (prefix_len is_digit bs == 0) _ _ (λ m. (m == 0) ≡ false → IsPointed (take m (b ∷ bs)))
    (λ _ h. absurd (true≢false h)) (λ more _. point_and_digits b bs (eqb-true b 46 point) more))
    (λ _ h. absurd (true≢false h)) some

parts_of : (d k : ℕ) (text : List ℕ) → text ≡ (take d text ++ take k (drop d text)) ++ drop k (drop d text)
parts_of d k text = sym (append_assoc (take d text) (take k (drop d text)) (drop k (drop d text))
    ∙ ap (λ (back : List ℕ). take d text ++ back) (take-append-drop k (drop d text)) ∙ take-append-drop d text)

front_numeral_spelled : (b : ℕ) (bs : List ℕ) → is_digit b ≡ true → IsSpelledFront false (b ∷ bs) (front_numeral (b ∷ bs))
front_numeral_spelled b bs digit =
    let text : List ℕ = b ∷ bs in
    let d = prefix_len is_digit text in
    let k = decimals_len (drop d text) in
    let whole = prefix_is_digits text (prefix_some is_digit b bs digit) in
    cond_both (k == 0) _ _ (IsSpelledFront false text) (λ _. (take d text, sym (take-append-drop d text), whole_spelled (take d text) whole)) (λ some.
    let behind = decimals_pointed (drop d text) some in (
      take d text ++ take k (drop d text),
      parts_of d k text,
      inr (record {
        whole = take d text;
        decimals = behind.0;
        parts = ap (λ (back : List ℕ). take d text ++ back) behind.1;
        before = whole;
        behind = behind.2;
      }),
    ))

-- comparisons and the other marks
front_compare_spelled : (b : ℕ) (wide strict : Comparison) (bs : List ℕ) → b ∷ 61 ∷ [] ≡ compare_text wide → b ∷ [] ≡ compare_text strict
    → IsSpelledFront false (b ∷ bs) (front_compare wide strict bs)
front_compare_spelled b wide strict [] wide_is strict_is = (b ∷ [], refl, strict_is)
front_compare_spelled b wide strict (c ∷ cs) wide_is strict_is = cond_both (c == 61) _ _ (IsSpelledFront false (b ∷ c ∷ cs))
    (λ same. (b ∷ 61 ∷ [], ap (λ (x : ℕ). b ∷ x ∷ cs) (eqb-true c 61 same), wide_is)) (λ _. (b ∷ [], refl, strict_is))

mark_spelled : (b : ℕ) → is_letter b ≡ false → is_digit b ≡ false → (b == 62) ≡ false → (b == 60) ≡ false → IsSpelled false (mark_token b) (b ∷ [])
mark_spelled b letter digit above below =
    let P : Token → Type 0 = λ t. IsSpelled false t (b ∷ []) in
    let is = λ (c : ℕ) (same : (b == c) ≡ true). ap (λ (x : ℕ). x ∷ []) (eqb-true b c same) in
    cond_both (b == 61) _ _ P (is 61) (λ e.
    cond_both (b == 43) _ _ P (is 43) (λ p.
    cond_both (b == 45) _ _ P (is 45) (λ m.
    cond_both (b == 42) _ _ P (is 42) (λ t. cond_both (b == 123) _ _ P (is 123) (λ o. (b, refl, rw (letter, digit, above, below, e, p, m, t, o) refl))))))

list_mark_spelled : (b : ℕ) → is_code_byte b ≡ false → IsSpelled true (list_mark_token b) (b ∷ [])
list_mark_spelled b in_code =
    let P : Token → Type 0 = λ t. IsSpelled true t (b ∷ []) in
    let is = λ (c : ℕ) (same : (b == c) ≡ true). ap (λ (x : ℕ). x ∷ []) (eqb-true b c same) in
    cond_both (b == 44) _ _ P (is 44) (λ comma. cond_both (b == 125) _ _ P (is 125) (λ close. (b, refl, rw (in_code, comma, close) refl)))

compare_at : (b c : ℕ) (wide strict : Comparison) (bs : List ℕ) → b ≡ c → c ∷ 61 ∷ [] ≡ compare_text wide → c ∷ [] ≡ compare_text strict
    → IsSpelledFront false (b ∷ bs) (front_compare wide strict bs)
compare_at b c wide strict bs same wide_is strict_is =
    front_compare_spelled b wide strict bs (ap (λ (x : ℕ). x ∷ 61 ∷ []) same ∙ wide_is) (ap (λ (x : ℕ). x ∷ []) same ∙ strict_is)

front_spelled : (inside : Bool) (b : ℕ) (bs : List ℕ) → IsSpelledFront inside (b ∷ bs) (front_of inside b bs)
front_spelled true b bs = cond_both (is_code_byte b) _ _ (IsSpelledFront true (b ∷ bs)) (front_code_spelled b bs)
    (λ in_code. (b ∷ [], refl, list_mark_spelled b in_code))
front_spelled false b bs =
    let P = IsSpelledFront false (b ∷ bs) in
    cond_both (is_letter b) _ _ P (front_word_spelled b bs) (λ letter.
    cond_both (is_digit b) _ _ P (front_numeral_spelled b bs) (λ digit.
    cond_both (b == 62) _ _ P (λ same. compare_at b 62 Ge Gt bs (eqb-true b 62 same) refl refl) (λ above.
    cond_both (b == 60) _ _ P (λ same. compare_at b 60 Le Lt bs (eqb-true b 60 same) refl refl) (λ below.
    (b ∷ [], refl, mark_spelled b letter digit above below)))))

-- ---- no longer front spells a token

-- what is left of a text that begins with this front, after the token at its front, is no longer than what follows the front
abbrev IsNotLonger : Bool → List ℕ → List ℕ → Type 0
IsNotLonger inside after [] = Unit {0}
IsNotLonger inside after (b ∷ bs) = length (front_of inside b (bs ++ after)).rest ≤ length after

abbrev IsRestWithin : ℕ → Front → Type 0
IsRestWithin n f = length f.rest ≤ n

-- a run is no longer than the bytes that pass
run_at_most : (p : ℕ → Bool) (run rest : List ℕ) → list_all p run ≡ true → length run ≤ prefix_len p (run ++ rest)
run_at_most p [] rest all = omega arith
run_at_most p (b ∷ bs) rest all =
    let parts = and_parts (p b) (list_all p bs) all in
    let more = run_at_most p bs rest parts.1 in rw parts.0 (omega arith)

one_byte : (inside : Bool) (bytes after : List ℕ) → length bytes ≡ 1 → IsNotLonger inside after bytes
one_byte inside [] after one = tt
one_byte inside (b ∷ bs) after one = omega (arith, front_of_rest inside b (bs ++ after), length-append bs after)

-- a letter and then bytes of words
abbrev IsWordText : List ℕ → Type 0
IsWordText [] = ⊥
IsWordText (b ∷ bs) = (is_letter b ≡ true) × (list_all is_word_byte (b ∷ bs) ≡ true) × (length (b ∷ bs) ≤ 32)

keyword_is_word : (k : Keyword) → IsWordText (keyword_text k)
keyword_is_word keyword.Number = (refl, refl, omega arith)
keyword_is_word keyword.Code = (refl, refl, omega arith)
keyword_is_word keyword.Weight = (refl, refl, omega arith)
keyword_is_word keyword.Scale = (refl, refl, omega arith)
keyword_is_word keyword.In = (refl, refl, omega arith)
keyword_is_word keyword.Not = (refl, refl, omega arith)
keyword_is_word keyword.If = (refl, refl, omega arith)
keyword_is_word keyword.And = (refl, refl, omega arith)
keyword_is_word keyword.Then = (refl, refl, omega arith)

name_is_word : (name : List ℕ) → IsName name → IsWordText name
name_is_word [] name = absurd (omega (arith, name.size.0))
name_is_word (b ∷ bs) name =
    let form = and_parts (is_letter b) (list_all is_word_byte bs) name.form in
    (form.0, rw (letter_is_word b form.0) form.1, name.size.1)

word_not_longer : (word after : List ℕ) → IsWordText word → IsNotLonger false after word
word_not_longer [] after word = tt
word_not_longer (b ∷ bs) after word =
    let run = run_at_most is_word_byte (b ∷ bs) after word.1 in
    rw (front_of_word b (bs ++ after) word.0) (omega (arith, length-drop (word_len (b ∷ bs ++ after)) (b ∷ bs ++ after), length-append bs after, word.2))

code_not_longer : (code after : List ℕ) → IsCodeText code → IsNotLonger true after code
code_not_longer [] after code = tt
code_not_longer (b ∷ bs) after code =
    let first = and_parts (is_code_byte b) (list_all is_code_byte bs) code.0 in
    let run = run_at_most is_code_byte (b ∷ bs) after code.0 in
    rw (front_of_code b (bs ++ after) first.0) (omega (arith, length-drop (code_len (b ∷ bs ++ after)) (b ∷ bs ++ after), length-append bs after, code.2))

digits_not_longer : (digits after : List ℕ) → IsDigits digits → IsNotLonger false after digits
digits_not_longer [] after digits = tt
digits_not_longer (b ∷ bs) after digits =
    let first = and_parts (is_digit b) (list_all is_digit bs) digits.1 in
    let run = run_at_most is_digit (b ∷ bs) after digits.1 in
    let text : List ℕ = b ∷ (bs ++ after) in
    let d = prefix_len is_digit text in
    let k = decimals_len (drop d text) in
    let short : length (drop d text) ≤ length after = omega (arith, length-drop d text, length-append bs after) in
    rw (front_of_numeral b (bs ++ after) first.0) (cond_both (k == 0) _ _ (IsRestWithin (length after)) (λ _. short)
    (λ _. omega (arith, length-drop k (drop d text))))

pub suc_not_zero : (n : ℕ) → (suc n == 0) ≡ false
suc_not_zero n = grind (arith, nat_tests)

decimal_rest : (whole ds after : List ℕ) → IsDigits whole → IsDigits ds → length (front_numeral (whole ++ 46 ∷ (ds ++ after))).rest ≤ length after
decimal_rest whole ds after before behind =
    let d : prefix_len is_digit (whole ++ 46 ∷ (ds ++ after)) ≡ length whole = prefix_of_run is_digit whole (46 ∷ (ds ++ after)) before.1 refl in
    let more = run_at_most is_digit ds after behind.1 in
    let some : (prefix_len is_digit (ds ++ after) == 0) ≡ false = grind (arith, nat_tests, behind.0) in
    rw (d, drop_at whole (46 ∷ (ds ++ after)) (length whole) refl, some, one-add, suc_not_zero)
    (omega (arith, length-drop (prefix_len is_digit (ds ++ after)) (ds ++ after), length-append ds after))

pub first_is_digit : (whole back : List ℕ) (b : ℕ) (bs : List ℕ) → b ∷ bs ≡ whole ++ back → IsDigits whole → is_digit b ≡ true
first_is_digit [] back b bs parts digits = absurd (omega (arith, digits.0))
first_is_digit (c ∷ cs) back b bs parts digits = let same : b ≡ c = cc in rw same (and_parts (is_digit c) (list_all is_digit cs) digits.1).0

decimal_not_longer : (bytes after : List ℕ) → IsDecimal bytes → IsNotLonger false after bytes
decimal_not_longer [] after decimal = tt
decimal_not_longer (b ∷ bs) after decimal =
    let digit = first_is_digit decimal.whole (46 ∷ decimal.decimals) b bs decimal.parts decimal.before in
    let text : b ∷ (bs ++ after) ≡ decimal.whole ++ 46 ∷ (decimal.decimals ++ after) = ap (λ (t : List ℕ). t ++ after) decimal.parts
    ∙ append_assoc decimal.whole (46 ∷ decimal.decimals) after in
    let front : front_of false b (bs ++ after) ≡ front_numeral (decimal.whole ++ 46 ∷ (decimal.decimals ++ after)) = front_of_numeral b (bs ++ after) digit
    ∙ ap front_numeral text in
    subst (IsRestWithin (length after)) (sym front) (decimal_rest decimal.whole decimal.decimals after decimal.before decimal.behind)

numeral_not_longer : (n : Numeral) (bytes after : List ℕ) → IsNumeralText n bytes → IsNotLonger false after bytes
numeral_not_longer (amount.Whole number) bytes after numeral = digits_not_longer bytes after numeral.0
numeral_not_longer amount.OutOfRange bytes after numeral =
    ⊎_elim (λ large. digits_not_longer bytes after large.0) (λ decimal. decimal_not_longer bytes after decimal) numeral

compare_not_longer : (c : Comparison) (after : List ℕ) → IsNotLonger false after (compare_text c)
compare_not_longer Ge after = omega arith
compare_not_longer Gt after = one_byte false (compare_text Gt) after refl
compare_not_longer Le after = omega arith
compare_not_longer Lt after = one_byte false (compare_text Lt) after refl
compare_not_longer Eq after = one_byte false (compare_text Eq) after refl

spelled_not_longer : (inside : Bool) (t : Token) (bytes after : List ℕ) → IsSpelled inside t bytes → IsNotLonger inside after bytes
spelled_not_longer false (token.Keyword k) bytes after spelled = word_not_longer bytes after (subst IsWordText (sym spelled) (keyword_is_word k))
spelled_not_longer false (token.Name name) bytes after spelled =
    subst (IsNotLonger false after) (sym spelled.0) (word_not_longer name after (name_is_word name spelled.1))
spelled_not_longer false (token.Numeral n) bytes after spelled = numeral_not_longer n bytes after spelled
spelled_not_longer false (token.Sign sign.Plus) bytes after spelled = one_byte false bytes after (ap length spelled)
spelled_not_longer false (token.Sign sign.Minus) bytes after spelled = one_byte false bytes after (ap length spelled)
spelled_not_longer false (token.Compare c) bytes after spelled = subst (IsNotLonger false after) (sym spelled) (compare_not_longer c after)
spelled_not_longer false token.Times bytes after spelled = one_byte false bytes after (ap length spelled)
spelled_not_longer false token.Open bytes after spelled = one_byte false bytes after (ap length spelled)
spelled_not_longer false token.Stray bytes after spelled = one_byte false bytes after (ap length spelled.1)
spelled_not_longer true (token.Code code) bytes after spelled = subst (IsNotLonger true after) (sym spelled.0) (code_not_longer code after spelled.1)
spelled_not_longer true token.Comma bytes after spelled = one_byte true bytes after (ap length spelled)
spelled_not_longer true token.Close bytes after spelled = one_byte true bytes after (ap length spelled)
spelled_not_longer true token.Stray bytes after spelled = one_byte true bytes after (ap length spelled.1)
spelled_not_longer _ _ bytes after spelled = absurd spelled

-- so the token at the front is the longest
longer_than_none : (inside : Bool) (b : ℕ) (bs other after : List ℕ) → b ∷ bs ≡ other ++ after → IsNotLonger inside after other
    → length (front_of inside b bs).rest ≤ length after ⊎ (length other ≤ 0)
longer_than_none inside b bs [] after same short = inr (omega arith)
longer_than_none inside b bs (c ∷ cs) after same short =
    let first : b ≡ c = cc in
    let others : bs ≡ cs ++ after = cc in inl (rw (first, others) short)

pub front_is_longest : (inside : Bool) (b : ℕ) (bs : List ℕ) → IsLongestToken inside (b ∷ bs) (front_of inside b bs).token (front_of inside b bs).rest
front_is_longest inside b bs =
    let f = front_of inside b bs in
    let spelled = front_spelled inside b bs in
    let size : length (b ∷ bs) ≡ length spelled.0 + length f.rest = ap length spelled.1 ∙ length-append spelled.0 f.rest in
    let longest = λ (u : Token) (other after : List ℕ) (same : b ∷ bs ≡ other ++ after) (reads : IsSpelled inside u other).
    (let both : length (b ∷ bs) ≡ length other + length after = ap length same ∙ length-append other after in
    let short = longer_than_none inside b bs other after same (spelled_not_longer inside u other after reads) in
    let is : length other ≤ length spelled.0 = ⊎_elim (λ (h : length f.rest ≤ length after). (let w : length other ≤ length spelled.0 = omega arith in w))
    (λ (h : length other ≤ 0). (let w : length other ≤ length spelled.0 = omega arith in w)) short in is) in
    record { front = spelled.0; parts = spelled.1; spelled = spelled.2; longest = longest }

-- ---- all tokens of a text

abbrev AreLongestAt : Bool → List ℕ → List Token → Type 0
AreLongestAt inside after [] = after ≡ []
AreLongestAt inside after (t ∷ ts) = (rest : List ℕ) × IsLongestToken inside after t rest × AreLongestTokens (is_inside_after inside t) rest ts

after_blanks_longest : (inside : Bool) (text : List ℕ) (ts : List Token) → AreLongestAt inside (after_blanks text) ts → AreLongestTokens inside text ts
after_blanks_longest inside text [] h = h
after_blanks_longest inside text (t ∷ ts) h = h

with_front_longest : (n : ℕ) (inside : Bool) (after : List ℕ) → length after ≤ suc n
    → ((inside : Bool) (rest : List ℕ) → length rest ≤ n → AreLongestTokens inside rest (tokens_within n inside rest))
    → AreLongestAt inside after (with_front inside after (tokens_within n))
with_front_longest n inside [] few more = refl
with_front_longest n inside (b ∷ bs) few more =
    let f = front_of inside b bs in
    let short : length f.rest ≤ length bs = front_of_rest inside b bs in
    (f.rest, front_is_longest inside b bs, more (is_inside_after inside f.token) f.rest (omega arith))

no_text : (text : List ℕ) → length text ≤ 0 → after_blanks text ≡ []
no_text [] few = refl
no_text (b ∷ bs) few = absurd (omega arith)

longest_within : (n : ℕ) (inside : Bool) (text : List ℕ) → length text ≤ n → AreLongestTokens inside text (tokens_within n inside text)
longest_within zero inside text few = no_text text few
longest_within (suc n) inside text few =
    let short = after_blanks_length text in
    after_blanks_longest inside text (tokens_within (suc n) inside text) (with_front_longest n inside (after_blanks text) (omega arith) (longest_within n))

-- each token of a text is the longest that can be read
pub tokens_are_longest : (inside : Bool) (text : List ℕ) → AreLongestTokens inside text (tokens_from inside text)
tokens_are_longest inside text = longest_within (length text) inside text (omega arith)
