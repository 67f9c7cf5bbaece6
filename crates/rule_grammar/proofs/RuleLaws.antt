-- What is read as a rule has its tokens, and its tokens are read as it.
use Rattle.std.proofs.Common.{◌≡◌, refl, sym, ap, subst, ◌∙◌, ◌==◌, Bool, true, false, Some, None, List, [], ◌∷◌, ◌++◌, if◌then◌else◌}
use Rattle.std.specs.List.{flat_map}
use Rattle.std.proofs.lemmas.List.{append_assoc, append-nil}
use Rattle.rule_grammar.proofs.ManyLaws.{many_back, many_spells}
use Rattle.rule_grammar.proofs.ReadLaws.{Spells, spells_after, spells_as, spells_behind, spells_word, word_begins}
use Rattle.rule_grammar.proofs.SumLaws.{extends_sum}
use Rattle.rule_grammar.proofs.TestLaws.{and_test_shortens, and_test_spells, and_test_tokens, test_back, test_begins, test_spells}
use Rattle.rule_grammar.specs.inner.Parsing.{Reading, and_test_at, and_tests_at, begins, conditional_at, is_word, many_at, rest_of, rule_at, test_at, then_at}
use Rattle.rule_grammar.specs.inner.Parsing.{then_read, word_number}
use Rattle.rule_grammar.specs.Statements.{rule_tokens, test_tokens}
use Rattle.rule_grammar.specs.declared.statement.RuleText.{RuleText}
use Rattle.rule_grammar.specs.declared.statement.TestText.{TestText}
use Rattle.rule_grammar.specs.declared.token.Keyword.{Keyword as Word}
use Rattle.rule_grammar.specs.declared.token.Keyword.TheVariants as keyword
use Rattle.rule_grammar.specs.declared.token.Token.{Token}
use Rattle.rule_grammar.specs.declared.token.Token.TheVariants as token

-- conditions, and the `if` before them
abbrev pub if_tokens : TestText → List TestText → List Token
if_tokens first rest = token.Keyword keyword.If ∷ (test_tokens first ++ flat_map and_test_tokens rest)

-- conditions with `if` and `then`, before the conclusion
rule_joined : (first : TestText) (rest : List TestText) (last : TestText)
    → rule_tokens (record { conditions = first ∷ rest; conclusion = last }) ≡ if_tokens first rest ++ token.Keyword keyword.Then ∷ test_tokens last
rule_joined first rest last = append_assoc (if_tokens first rest) (token.Keyword keyword.Then ∷ []) (test_tokens last)

-- ---- what is read has its tokens

then_spells : (first : TestText) (rest : List TestText) (ts : List Token) → Spells rule_tokens (if_tokens first rest ++ ts) (then_at (first ∷ rest) ts)
then_spells first rest ts = by_word (begins (is_word keyword.Then) ts) refl
  where
    by_word : (found : Bool) → begins (is_word keyword.Then) ts ≡ found
        → Spells rule_tokens (if_tokens first rest ++ ts) (if found then then_read (test_at (rest_of ts))
        (λ last left. Some (record { conditions = first ∷ rest; conclusion = last }, left)) else None)
    by_word false is = tt
    by_word true is = spells_as (λ last. if_tokens first rest ++ token.Keyword keyword.Then ∷ test_tokens last) rule_tokens
        (λ last. record { conditions = first ∷ rest; conclusion = last }) (if_tokens first rest ++ ts) (test_at (rest_of ts)) (rule_joined first rest)
        (spells_behind (if_tokens first rest) (λ last. token.Keyword keyword.Then ∷ test_tokens last) ts (test_at (rest_of ts))
        (spells_word keyword.Then test_tokens ts (test_at (rest_of ts)) is (test_spells (rest_of ts))))

conditional_spells : (ts : List Token) → Spells rule_tokens (token.Keyword keyword.If ∷ ts) (conditional_at ts)
conditional_spells ts = spells_after (λ first. token.Keyword keyword.If ∷ test_tokens first) rule_tokens (token.Keyword keyword.If ∷ ts) (test_at ts)
    (λ first left. then_read (and_tests_at first left) then_at)
    (spells_behind (token.Keyword keyword.If ∷ []) test_tokens ts (test_at ts) (test_spells ts)) from_first
  where
    with_rest : (first : TestText) (left : List Token) (reading : Reading (List TestText)) → Spells (flat_map and_test_tokens) left reading
        → Spells rule_tokens ((token.Keyword keyword.If ∷ test_tokens first) ++ left)
        (then_read (then_read reading (λ more last. Some (first ∷ more, last))) then_at)
    with_rest first left None one = tt
    with_rest first left (Some found) one =
        let joined = append_assoc (token.Keyword keyword.If ∷ test_tokens first) (flat_map and_test_tokens found.0) found.1 in
        let whole : (token.Keyword keyword.If ∷ test_tokens first) ++ left ≡ if_tokens first found.0
        ++ found.1 = ap (λ l. (token.Keyword keyword.If ∷ test_tokens first) ++ l) one ∙ sym joined in
        subst (λ l. Spells rule_tokens l (then_at (first ∷ found.0) found.1)) (sym whole) (then_spells first found.0 found.1)

    from_first : (first : TestText) (left : List Token)
        → Spells rule_tokens ((token.Keyword keyword.If ∷ test_tokens first) ++ left) (then_read (and_tests_at first left) then_at)
    from_first first left = with_rest first left (many_at (is_word keyword.And) and_test_at left)
        (many_spells (is_word keyword.And) and_test_at and_test_tokens and_test_spells left)

pub rule_spells : (ts : List Token) → Spells rule_tokens ts (rule_at ts)
rule_spells ts = by_word (begins (is_word keyword.If) ts) refl
  where
    by_word : (found : Bool) → begins (is_word keyword.If) ts ≡ found
        → Spells rule_tokens ts (if found then conditional_at (rest_of ts) else then_read (test_at ts)
        (λ last left. Some (record { conditions = []; conclusion = last }, left)))
    by_word true is = subst (λ all. Spells rule_tokens all (conditional_at (rest_of ts))) (sym (word_begins keyword.If ts is)) (conditional_spells (rest_of ts))
    by_word false is = spells_as test_tokens rule_tokens (λ last. record { conditions = []; conclusion = last }) ts (test_at ts) (λ last. refl) (test_spells ts)

-- ---- its tokens are read as it

and_test_back : (t : TestText) (ts : List Token) → begins extends_sum ts ≡ false → and_test_at (and_test_tokens t ++ ts) ≡ Some (t, ts)
and_test_back t ts ends = test_back t ts ends

and_tests_back : (first : TestText) (rest : List TestText) (ts : List Token)
    → and_tests_at first (flat_map and_test_tokens rest ++ token.Keyword keyword.Then ∷ ts) ≡ Some (first ∷ rest, token.Keyword keyword.Then ∷ ts)
and_tests_back first rest ts = rw (many_back (is_word keyword.And) and_test_at extends_sum and_test_tokens and_test_back (λ x left. refl)
    (λ x left. refl) and_test_shortens (token.Keyword keyword.Then ∷ ts) refl refl rest) refl

conditional_back : (first : TestText) (rest : List TestText) (last : TestText) (ts : List Token) → begins extends_sum ts ≡ false
    → conditional_at (test_tokens first ++ (flat_map and_test_tokens rest ++ token.Keyword keyword.Then ∷ (test_tokens last ++ ts))) ≡ Some
    (record { conditions = first ∷ rest; conclusion = last }, ts)
conditional_back first rest last ts ends =
    rw (test_back first (flat_map and_test_tokens rest ++ token.Keyword keyword.Then ∷ (test_tokens last ++ ts)) (goes_on rest))
    (rw (and_tests_back first rest (test_tokens last ++ ts)) (rw (test_back last ts ends) refl))
  where
    goes_on : (more : List TestText) → begins extends_sum (flat_map and_test_tokens more ++ token.Keyword keyword.Then ∷ (test_tokens last ++ ts)) ≡ false
    goes_on [] = refl
    goes_on (t ∷ more) = refl

pub rule_back : (r : RuleText) (ts : List Token) → begins extends_sum ts ≡ false → rule_at (rule_tokens r ++ ts) ≡ Some (r, ts)
rule_back r ts ends = by_conditions r.conditions r.conclusion
  where
    by_conditions : (conditions : List TestText) (last : TestText)
        → rule_at (rule_tokens (record { conditions = conditions; conclusion = last }) ++ ts) ≡ Some (record { conditions = conditions; conclusion = last }, ts)
    by_conditions [] last = rw (test_begins keyword.If last ts, test_back last ts ends) refl
    by_conditions (first ∷ rest) last =
        let spread : rule_tokens (record { conditions = first ∷ rest; conclusion = last })
        ++ ts ≡ token.Keyword keyword.If ∷ (test_tokens first ++ (flat_map and_test_tokens rest ++ token.Keyword keyword.Then ∷ (test_tokens last ++ ts))) =
        simp append_assoc in
        ap rule_at spread ∙ conditional_back first rest last ts ends

-- the first token of a rule is `if`, or that of a test
pub rule_begins : (word : Word) (r : RuleText) → (word_number keyword.If == word_number word) ≡ false → begins (is_word word) (rule_tokens r) ≡ false
rule_begins word r other = by_conditions r.conditions r.conclusion
  where
    by_conditions : (conditions : List TestText) (last : TestText)
        → begins (is_word word) (rule_tokens (record { conditions = conditions; conclusion = last })) ≡ false
    by_conditions [] last = ap (begins (is_word word)) (sym (append-nil (test_tokens last))) ∙ test_begins word last []
    by_conditions (first ∷ rest) last = other
