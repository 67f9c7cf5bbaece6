-- What is read as a test and as a rule has its tokens, and its tokens are read as it.
use Rattle.std.proofs.Common.{◌≡◌, refl, sym, ap, subst, ◌∙◌, ℕ, Bool, true, false, Option, Some, None, List, [], ◌∷◌, ◌++◌, if◌then◌else◌, arith}
use Rattle.std.specs.List.{flat_map}
use Rattle.std.proofs.lemmas.List.{append_assoc}
use Rattle.edit_model.specs.declared.rule.Compare.{Compare as Comparison}
use Rattle.rule_grammar.proofs.ListLaws.{in_list_back, in_list_spells, in_list_tokens}
use Rattle.rule_grammar.proofs.ReadLaws.{Shortens, Spells, compare_spells, name_spells, shortens_spelled, spells_after, spells_as, spells_behind}
use Rattle.rule_grammar.proofs.ReadLaws.{spells_from_word, word_begins}
use Rattle.rule_grammar.proofs.SumLaws.{extends_sum, sum_after_back, sum_after_spells, sum_back, sum_spells}
use Rattle.rule_grammar.specs.inner.Parsing.{and_test_at, begins, codes_after, compare_at, compared_at, in_list_at, is_name_token, is_word, name_at, rest_of}
use Rattle.rule_grammar.specs.inner.Parsing.{sum_after, sum_at, sums_after, test_after, test_at, then_read}
use Rattle.rule_grammar.specs.Statements.{signed_term_tokens, sum_tokens, term_tokens, test_tokens}
use Rattle.rule_grammar.specs.declared.statement.SignedTerm.{SignedTerm}
use Rattle.rule_grammar.specs.declared.statement.SumText.{SumText}
use Rattle.rule_grammar.specs.declared.statement.TermText.{TermText}
use Rattle.rule_grammar.specs.declared.statement.TermText.TheVariants as term
use Rattle.rule_grammar.specs.declared.statement.TestText.{TestText}
use Rattle.rule_grammar.specs.declared.statement.TestText.TheVariants as test
use Rattle.rule_grammar.specs.declared.token.Keyword.{Keyword as Word}
use Rattle.rule_grammar.specs.declared.token.Keyword.TheVariants as keyword
use Rattle.rule_grammar.specs.declared.token.Sign.{Sign}
use Rattle.rule_grammar.specs.declared.token.Token.{Token}
use Rattle.rule_grammar.specs.declared.token.Token.TheVariants as token

-- ---- what is read has its tokens

compared_spells : (left : SumText) (ts : List Token) → Spells test_tokens (sum_tokens left ++ ts) (compared_at left ts)
compared_spells left ts = spells_after (λ compare. sum_tokens left ++ token.Compare compare ∷ []) test_tokens (sum_tokens left ++ ts) (compare_at ts)
    (λ compare after_mark. then_read (sum_at after_mark) (λ right last. Some (test.Sums left compare right, last)))
    (spells_behind (sum_tokens left) (λ (compare : Comparison). token.Compare compare ∷ []) ts (compare_at ts) (compare_spells ts))
    (λ compare after_mark. right_spells compare after_mark)
  where
    right_spells : (compare : Comparison) (after_mark : List Token)
        → Spells test_tokens ((sum_tokens left ++ token.Compare compare ∷ []) ++ after_mark)
        (then_read (sum_at after_mark) (λ right last. Some (test.Sums left compare right, last)))
    right_spells compare after_mark = spells_as (λ right. (sum_tokens left ++ token.Compare compare ∷ []) ++ sum_tokens right) test_tokens
        (λ right. test.Sums left compare right) ((sum_tokens left ++ token.Compare compare ∷ []) ++ after_mark) (sum_at after_mark)
        (λ right. sym (append_assoc (sum_tokens left) (token.Compare compare ∷ []) (sum_tokens right)))
        (spells_behind (sum_tokens left ++ token.Compare compare ∷ []) sum_tokens after_mark (sum_at after_mark) (sum_spells after_mark))

sums_after_spells : (field : List ℕ) (ts : List Token) → Spells test_tokens (token.Name field ∷ ts) (sums_after field ts)
sums_after_spells field ts = spells_after sum_tokens test_tokens (token.Name field ∷ ts) (sum_after None (term.Field field) ts) compared_at
    (sum_after_spells None (term.Field field) ts) compared_spells

codes_in_spells : (field : List ℕ) (ts : List Token) → Spells test_tokens (token.Name field ∷ ts) (codes_after field false ts)
codes_in_spells field ts = spells_as (λ list. token.Name field ∷ in_list_tokens list) test_tokens (λ list. test.Codes field false list) (token.Name field ∷ ts)
    (in_list_at ts) (λ list. refl) (spells_behind (token.Name field ∷ []) in_list_tokens ts (in_list_at ts) (in_list_spells ts))

codes_not_in_spells : (field : List ℕ) (ts : List Token) → Spells test_tokens (token.Name field ∷ token.Keyword keyword.Not ∷ ts) (codes_after field true ts)
codes_not_in_spells field ts = spells_as (λ list. token.Name field ∷ token.Keyword keyword.Not ∷ in_list_tokens list) test_tokens
    (λ list. test.Codes field true list) (token.Name field ∷ token.Keyword keyword.Not ∷ ts) (in_list_at ts) (λ list. refl)
    (spells_behind (token.Name field ∷ token.Keyword keyword.Not ∷ []) in_list_tokens ts (in_list_at ts) (in_list_spells ts))

test_after_spells : (field : List ℕ) (ts : List Token) → Spells test_tokens (token.Name field ∷ ts) (test_after field ts)
test_after_spells field ts = by_not (begins (is_word keyword.Not) ts) refl
  where
    by_not : (found : Bool) → begins (is_word keyword.Not) ts ≡ found
        → Spells test_tokens (token.Name field ∷ ts) (if found then codes_after field true (rest_of ts) else if begins
        (is_word keyword.In) ts then codes_after field false ts else sums_after field ts)
    by_not true is = subst (λ all. Spells test_tokens (token.Name field ∷ all) (codes_after field true (rest_of ts))) (sym (word_begins keyword.Not ts is))
        (codes_not_in_spells field (rest_of ts))
    by_not false is = elim (begins (is_word keyword.In) ts) as
        (λ b. Spells test_tokens (token.Name field ∷ ts) (if b then codes_after field false ts else sums_after field ts))
        [ true ↦ codes_in_spells field ts | false ↦ sums_after_spells field ts ]

pub test_spells : (ts : List Token) → Spells test_tokens ts (test_at ts)
test_spells ts = elim (begins is_name_token ts) as (λ b. Spells test_tokens ts
    (if b then then_read (name_at ts) test_after else then_read (sum_at ts) compared_at)) [
      | true ↦ spells_after (λ name. token.Name name ∷ []) test_tokens ts (name_at ts) test_after (name_spells ts) test_after_spells
      | false ↦ spells_after sum_tokens test_tokens ts (sum_at ts) compared_at (sum_spells ts) compared_spells
    ]

-- `and` and a test
abbrev pub and_test_tokens : TestText → List Token
and_test_tokens t = token.Keyword keyword.And ∷ test_tokens t

pub and_test_spells : (ts : List Token) → Spells and_test_tokens ts (and_test_at ts)
and_test_spells ts = spells_from_word keyword.And test_tokens test_at test_spells ts

pub and_test_shortens : (ts : List Token) → Shortens ts (and_test_at ts)
and_test_shortens ts = shortens_spelled and_test_tokens ts (and_test_at ts) (λ x. omega arith) (and_test_spells ts)

-- ---- its tokens are read as it

-- the sum before a comparison is read as a test's left side
sums_back : (left : SumText) (compare : Comparison) (ts : List Token)
    → test_at (sum_tokens left ++ token.Compare compare ∷ ts) ≡ then_read (Some (left, token.Compare compare ∷ ts)) compared_at
sums_back left compare ts = by_sign left.sign left.first left.rest
  where
    not_next : (word : Word) (rest : List SignedTerm) → begins (is_word word) (flat_map signed_term_tokens rest ++ token.Compare compare ∷ ts) ≡ false
    not_next word [] = refl
    not_next word (x ∷ xs) = refl

    by_first : (first : TermText) (rest : List SignedTerm)
        → test_at ((term_tokens first ++ flat_map signed_term_tokens rest) ++ token.Compare compare ∷ ts) ≡ then_read
        (Some (record { sign = None; first = first; rest = rest }, token.Compare compare ∷ ts)) compared_at
    by_first (term.Field field) rest = rw (not_next keyword.Not rest, not_next keyword.In rest)
        (rw (sum_after_back (record { sign = None; first = term.Field field; rest = rest }) (token.Compare compare ∷ ts) refl) refl)
    by_first (term.Constant number) rest = rw (sum_back (record { sign = None; first = term.Constant number; rest = rest })
        (token.Compare compare ∷ ts) refl) refl
    by_first (term.Product number times field) rest = rw
        (sum_back (record { sign = None; first = term.Product number times field; rest = rest }) (token.Compare compare ∷ ts) refl) refl

    by_sign : (sign : Option Sign) (first : TermText) (rest : List SignedTerm)
        → test_at (sum_tokens (record { sign = sign; first = first; rest = rest }) ++ token.Compare compare ∷ ts) ≡ then_read
        (Some (record { sign = sign; first = first; rest = rest }, token.Compare compare ∷ ts)) compared_at
    by_sign None first rest = by_first first rest
    by_sign (Some s) first rest = rw (sum_back (record { sign = Some s; first = first; rest = rest }) (token.Compare compare ∷ ts) refl) refl

pub test_back : (t : TestText) (ts : List Token) → begins extends_sum ts ≡ false → test_at (test_tokens t ++ ts) ≡ Some (t, ts)
test_back (test.Codes field true list) ts ends = rw (in_list_back list ts) refl
test_back (test.Codes field false list) ts ends = rw (in_list_back list ts) refl
test_back (test.Sums left compare right) ts ends = ap test_at (append_assoc (sum_tokens left) (token.Compare compare ∷ sum_tokens right) ts)
    ∙ (sums_back left compare (sum_tokens right ++ ts) ∙ rw (sum_back right ts ends) refl)

-- the first token of a test is none of these words
pub test_begins : (word : Word) (t : TestText) (ts : List Token) → begins (is_word word) (test_tokens t ++ ts) ≡ false
test_begins word (test.Codes field negated list) ts = refl
test_begins word (test.Sums left compare right) ts = by_sign left.sign left.first left.rest
  where
    by_sign : (sign : Option Sign) (first : TermText) (rest : List SignedTerm)
        → begins (is_word word) ((sum_tokens (record { sign = sign; first = first; rest = rest }) ++ token.Compare compare ∷ sum_tokens right) ++ ts) ≡ false
    by_sign (Some s) first rest = refl
    by_sign None (term.Field field) rest = refl
    by_sign None (term.Constant number) rest = refl
    by_sign None (term.Product number times field) rest = refl
