-- What is read as a declaration has its tokens, and its tokens are read as it.
use Rattle.std.proofs.Common.{◌≡◌, refl, sym, ap, ◌∙◌, ℕ, Bool, true, false, Option, Some, None, List, [], ◌∷◌, ◌++◌, if◌then◌else◌}
use Rattle.std.proofs.lemmas.List.{append-nil}
use Rattle.rule_grammar.proofs.ListLaws.{in_list_back, in_list_spells, in_list_tokens}
use Rattle.rule_grammar.proofs.ReadLaws.{Spells, is_that_word, name_spells, numeral_spells, spells_after, spells_as, spells_behind, spells_word}
use Rattle.rule_grammar.specs.inner.Parsing.{Reading, begins, code_field_at, in_list_at, is_word, name_at, number_at, numeral_at, option_at, rest_of, then_read}
use Rattle.rule_grammar.specs.Statements.{declaration_tokens, option_tokens}
use Rattle.rule_grammar.specs.declared.statement.CodeList.{CodeList}
use Rattle.rule_grammar.specs.declared.statement.Declaration.{Declaration as Declared}
use Rattle.rule_grammar.specs.declared.statement.Declaration.TheVariants as declaration
use Rattle.rule_grammar.specs.declared.token.Keyword.{Keyword as Word}
use Rattle.rule_grammar.specs.declared.token.Keyword.TheVariants as keyword
use Rattle.rule_grammar.specs.declared.token.Numeral.{Numeral}
use Rattle.rule_grammar.specs.declared.token.Token.{Token}
use Rattle.rule_grammar.specs.declared.token.Token.TheVariants as token

-- ---- what is read has its tokens

pub option_spells : (word : Word) (ts : List Token) → Spells (option_tokens (token.Keyword word)) ts (option_at word ts)
option_spells word ts = by_word (begins (is_word word) ts) refl
  where
    by_word : (found : Bool) → begins (is_word word) ts ≡ found
        → Spells (option_tokens (token.Keyword word)) ts (if found then then_read (numeral_at (rest_of ts)) (λ number left. Some (Some number, left)) else Some
        (None, ts))
    by_word false is = refl
    by_word true is = spells_as (λ number. token.Keyword word ∷ token.Numeral number ∷ []) (option_tokens (token.Keyword word)) (λ number. Some number) ts
        (numeral_at (rest_of ts)) (λ number. refl) (spells_word word (λ (number : Numeral). token.Numeral number ∷ []) ts (numeral_at (rest_of ts)) is
        (numeral_spells (rest_of ts)))

scale_spells : (name : List ℕ) (weight : Option Numeral) (ts : List Token)
    → Spells declaration_tokens ((token.Keyword keyword.Number ∷ token.Name name ∷ option_tokens (token.Keyword keyword.Weight) weight) ++ ts)
    (then_read (option_at keyword.Scale ts) (λ scale last. Some (declaration.Number name weight scale, last)))
scale_spells name weight ts = spells_as (λ scale. (token.Keyword keyword.Number ∷ token.Name name ∷ option_tokens (token.Keyword keyword.Weight) weight)
    ++ option_tokens (token.Keyword keyword.Scale) scale) declaration_tokens (λ scale. declaration.Number name weight scale)
    ((token.Keyword keyword.Number ∷ token.Name name ∷ option_tokens (token.Keyword keyword.Weight) weight) ++ ts) (option_at keyword.Scale ts) (λ scale. refl)
    (spells_behind (token.Keyword keyword.Number ∷ token.Name name ∷ option_tokens (token.Keyword keyword.Weight) weight)
    (option_tokens (token.Keyword keyword.Scale)) ts (option_at keyword.Scale ts) (option_spells keyword.Scale ts))

codes_spell : (name : List ℕ) (weight : Option Numeral) (ts : List Token)
    → Spells declaration_tokens ((token.Keyword keyword.Code ∷ token.Name name ∷ option_tokens (token.Keyword keyword.Weight) weight) ++ ts)
    (then_read (in_list_at ts) (λ list last. Some (declaration.Code name weight list, last)))
codes_spell name weight ts = spells_as (λ list. (token.Keyword keyword.Code ∷ token.Name name ∷ option_tokens (token.Keyword keyword.Weight) weight)
    ++ in_list_tokens list) declaration_tokens (λ list. declaration.Code name weight list)
    ((token.Keyword keyword.Code ∷ token.Name name ∷ option_tokens (token.Keyword keyword.Weight) weight) ++ ts) (in_list_at ts) (λ list. refl)
    (spells_behind (token.Keyword keyword.Code ∷ token.Name name ∷ option_tokens (token.Keyword keyword.Weight) weight) in_list_tokens ts (in_list_at ts)
    (in_list_spells ts))

-- a name and a weight behind the first word, and what comes after them
named_spells : (word : Word) (next : List ℕ → Option Numeral → List Token → Reading Declared)
    → ((name : List ℕ) (weight : Option Numeral) (ts : List Token)
    → Spells declaration_tokens ((token.Keyword word ∷ token.Name name ∷ option_tokens (token.Keyword keyword.Weight) weight) ++ ts) (next name weight ts))
    → (ts : List Token) → Spells declaration_tokens (token.Keyword word ∷ ts)
    (then_read (name_at ts) (λ name left. then_read (option_at keyword.Weight left) (next name)))
named_spells word next each ts = spells_after (λ name. token.Keyword word ∷ token.Name name ∷ []) declaration_tokens (token.Keyword word ∷ ts) (name_at ts)
    (λ name left. then_read (option_at keyword.Weight left) (next name))
    (spells_behind (token.Keyword word ∷ []) (λ (name : List ℕ). token.Name name ∷ []) ts (name_at ts) (name_spells ts))
    (λ name left. spells_after (λ weight. token.Keyword word ∷ token.Name name ∷ option_tokens (token.Keyword keyword.Weight) weight) declaration_tokens
    (token.Keyword word ∷ token.Name name ∷ left) (option_at keyword.Weight left) (next name)
    (spells_behind (token.Keyword word ∷ token.Name name ∷ []) (option_tokens (token.Keyword keyword.Weight)) left (option_at keyword.Weight left)
    (option_spells keyword.Weight left)) (each name))

pub number_spells : (ts : List Token) → Spells declaration_tokens (token.Keyword keyword.Number ∷ ts) (number_at ts)
number_spells = named_spells keyword.Number (λ name weight more. then_read (option_at keyword.Scale more)
    (λ scale last. Some (declaration.Number name weight scale, last))) scale_spells

pub code_field_spells : (ts : List Token) → Spells declaration_tokens (token.Keyword keyword.Code ∷ ts) (code_field_at ts)
code_field_spells = named_spells keyword.Code (λ name weight more. then_read (in_list_at more)
    (λ list last. Some (declaration.Code name weight list, last))) codes_spell

-- ---- its tokens are read as it

option_back : (word : Word) (number : Option Numeral) (ts : List Token) → begins (is_word word) ts ≡ false
    → option_at word (option_tokens (token.Keyword word) number ++ ts) ≡ Some (number, ts)
option_back word None ts ends = rw ends refl
option_back word (Some number) ts ends = rw (is_that_word word) refl

pub number_back : (name : List ℕ) (weight scale : Option Numeral)
    → number_at (token.Name name ∷ (option_tokens (token.Keyword keyword.Weight) weight ++ option_tokens (token.Keyword keyword.Scale) scale)) ≡ Some
    (declaration.Number name weight scale, [])
number_back name weight scale = rw (option_back keyword.Weight weight (option_tokens (token.Keyword keyword.Scale) scale) (no_weight scale))
    (rw scale_back refl)
  where
    no_weight : (number : Option Numeral) → begins (is_word keyword.Weight) (option_tokens (token.Keyword keyword.Scale) number) ≡ false
    no_weight None = refl
    no_weight (Some number) = refl

    scale_back : option_at keyword.Scale (option_tokens (token.Keyword keyword.Scale) scale) ≡ Some (scale, [])
    scale_back = ap (option_at keyword.Scale) (sym (append-nil (option_tokens (token.Keyword keyword.Scale) scale))) ∙ option_back keyword.Scale scale [] refl

pub code_field_back : (name : List ℕ) (weight : Option Numeral) (list : CodeList)
    → code_field_at (token.Name name ∷ (option_tokens (token.Keyword keyword.Weight) weight ++ in_list_tokens list)) ≡ Some
    (declaration.Code name weight list, [])
code_field_back name weight list = rw (option_back keyword.Weight weight (in_list_tokens list) refl) (rw list_back refl)
  where
    list_back : in_list_at (in_list_tokens list) ≡ Some (list, [])
    list_back = ap in_list_at (sym (append-nil (in_list_tokens list))) ∙ in_list_back list []
