-- What is read and what is left of it, joined one after another.
use Rattle.std.proofs.Common.{◌≡◌, refl, sym, ap, subst, ◌∙◌, ℕ, ◌<◌, ◌==◌, Bool, true, false, Some, None, List, [], ◌∷◌, ◌++◌, length, if◌then◌else◌, arith}
use Rattle.std.proofs.lemmas.Bool.{eq-eqb, eqb-true}
use Rattle.std.proofs.lemmas.List.{append_assoc, length-append}
use Rattle.edit_model.specs.declared.rule.Compare.{Compare as Comparison}
use Rattle.rule_grammar.proofs.Keywords.{each_keyword}
use Rattle.rule_grammar.specs.inner.Parsing.{Reading, begins, code_at, compare_at, is_word, name_at, numeral_at, rest_of, sign_at, then_read, word_number}
use Rattle.rule_grammar.specs.declared.token.Keyword.{Keyword as Word}
use Rattle.rule_grammar.specs.declared.token.Keyword.TheVariants as keyword
use Rattle.rule_grammar.specs.declared.token.Numeral.{Numeral}
use Rattle.rule_grammar.specs.declared.token.Sign.{Sign}
use Rattle.rule_grammar.specs.declared.token.Token.{Token}
use Rattle.rule_grammar.specs.declared.token.Token.TheVariants as token

-- where something was read, its tokens and what is left are all that there was
abbrev pub Spells : {X : Type 0} → (X → List Token) → List Token → Reading X → Type 0
Spells spelling ts None = Unit {0}
Spells spelling ts (Some found) = ts ≡ spelling found.0 ++ found.1

-- where something was read, less is left than there was
abbrev pub Shortens : {X : Type 0} → List Token → Reading X → Type 0
Shortens ts None = Unit {0}
Shortens ts (Some found) = length found.1 < length ts

pub spells_after : {X Y : Type 0} (first : X → List Token) (spelling : Y → List Token) (ts : List Token) (reading : Reading X)
    (next : X → List Token → Reading Y) → Spells first ts reading → ((x : X) (left : List Token) → Spells spelling (first x ++ left) (next x left))
    → Spells spelling ts (then_read reading next)
spells_after first spelling ts None next one more = tt
spells_after first spelling ts (Some found) next one more = rw one (more found.0 found.1)

-- one token before all
pub spells_behind : {X : Type 0} (front : List Token) (spelling : X → List Token) (ts : List Token) (reading : Reading X) → Spells spelling ts reading
    → Spells (λ x. front ++ spelling x) (front ++ ts) reading
spells_behind front spelling ts None one = tt
spells_behind front spelling ts (Some found) one = ap (λ l. front ++ l) one ∙ sym (append_assoc front (spelling found.0) found.1)

-- a reading under another spelling
pub spells_as : {X Y : Type 0} (spelling : X → List Token) (other : Y → List Token) (made : X → Y) (ts : List Token) (reading : Reading X)
    → ((x : X) → other (made x) ≡ spelling x) → Spells spelling ts reading → Spells other ts (then_read reading (λ x left. Some (made x, left)))
spells_as spelling other made ts None same one = tt
spells_as spelling other made ts (Some found) same one = rw (same found.0) one

pub spells_read : {X : Type 0} (spelling : X → List Token) (ts left : List Token) (x : X) (reading : Reading X) → Spells spelling ts reading
    → reading ≡ Some (x, left) → ts ≡ spelling x ++ left
spells_read spelling ts left x reading one is = subst (Spells spelling ts) is one

pub shortens_read : {X : Type 0} (ts left : List Token) (x : X) (reading : Reading X) → Shortens ts reading → reading ≡ Some (x, left) → length left < length ts
shortens_read ts left x reading one is = subst (Shortens ts) is one

-- a spelling is never empty
pub shortens_spelled : {X : Type 0} (spelling : X → List Token) (ts : List Token) (reading : Reading X) → ((x : X) → 0 < length (spelling x))
    → Spells spelling ts reading → Shortens ts reading
shortens_spelled spelling ts None some one = tt
shortens_spelled spelling ts (Some found) some one =
    let less = some found.0 in
    rw (one, length-append) (omega arith)

-- ---- single tokens

pub name_spells : (ts : List Token) → Spells (λ (name : List ℕ). token.Name name ∷ []) ts (name_at ts)
name_spells (token.Name name ∷ ts) = refl
name_spells _ = tt

pub numeral_spells : (ts : List Token) → Spells (λ (number : Numeral). token.Numeral number ∷ []) ts (numeral_at ts)
numeral_spells (token.Numeral number ∷ ts) = refl
numeral_spells _ = tt

pub code_spells : (ts : List Token) → Spells (λ (code : List ℕ). token.Code code ∷ []) ts (code_at ts)
code_spells (token.Code code ∷ ts) = refl
code_spells _ = tt

pub sign_spells : (ts : List Token) → Spells (λ (s : Sign). token.Sign s ∷ []) ts (sign_at ts)
sign_spells (token.Sign s ∷ ts) = refl
sign_spells _ = tt

pub compare_spells : (ts : List Token) → Spells (λ (compare : Comparison). token.Compare compare ∷ []) ts (compare_at ts)
compare_spells (token.Compare compare ∷ ts) = refl
compare_spells _ = tt

-- ---- keywords

word_of : ℕ → Word
word_of n =
    if n == 0 then keyword.Number
    else if n == 1 then keyword.Code
    else if n == 2 then keyword.Weight
    else if n == 3 then keyword.Scale
    else if n == 4 then keyword.In
    else if n == 5 then keyword.Not
    else if n == 6 then keyword.If
    else if n == 7 then keyword.And
    else keyword.Then

number_back : (word : Word) → word_of (word_number word) ≡ word
unfolding word_of
number_back = each_keyword (λ (k : Word). word_of (word_number k) ≡ k) refl refl refl refl refl refl refl refl refl

same_word : (a b : Word) → (word_number a == word_number b) ≡ true → a ≡ b
same_word a b same = sym (number_back a) ∙ (ap word_of (eqb-true (word_number a) (word_number b) same) ∙ number_back b)

-- a token that is this keyword
pub word_is : (word : Word) (t : Token) → is_word word t ≡ true → t ≡ token.Keyword word
word_is word (token.Keyword other) same = ap token.Keyword (same_word other word same)
word_is word _ same = absurd (cc)

-- tokens that begin with it
pub word_begins : (word : Word) (ts : List Token) → begins (is_word word) ts ≡ true → ts ≡ token.Keyword word ∷ rest_of ts
word_begins word [] same = absurd (cc)
word_begins word (t ∷ ts) same = rw (word_is word t same) refl

pub is_that_word : (word : Word) → (word_number word == word_number word) ≡ true
is_that_word word = eq-eqb (word_number word) (word_number word) refl

-- one thing behind a keyword
pub spells_word : {X : Type 0} (word : Word) (spelling : X → List Token) (ts : List Token) (reading : Reading X) → begins (is_word word) ts ≡ true
    → Spells spelling (rest_of ts) reading → Spells (λ x. token.Keyword word ∷ spelling x) ts reading
spells_word word spelling ts None begun one = tt
spells_word word spelling ts (Some found) begun one = word_begins word ts begun ∙ ap (λ l. token.Keyword word ∷ l) one

-- and so where the word is looked for
pub spells_from_word : {X : Type 0} (word : Word) (spelling : X → List Token) (reads : List Token → Reading X)
    → ((ts : List Token) → Spells spelling ts (reads ts))
    → (ts : List Token) → Spells (λ x. token.Keyword word ∷ spelling x) ts (if begins (is_word word) ts then reads (rest_of ts) else None)
spells_from_word {X} word spelling reads spells ts = by_word (begins (is_word word) ts) refl
  where
    by_word : (found : Bool) → begins (is_word word) ts ≡ found
        → Spells (λ (x : X). token.Keyword word ∷ spelling x) ts (if found then reads (rest_of ts) else None)
    by_word false is = tt
    by_word true is = spells_word word spelling ts (reads (rest_of ts)) is (spells (rest_of ts))
