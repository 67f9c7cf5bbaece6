-- What is read as a list of codes has its tokens, and its tokens are read as it.
use Rattle.std.proofs.Common.{◌≡◌, refl, sym, ap, ◌∙◌, ℕ, false, Some, None, List, [], ◌∷◌, ◌++◌, arith}
use Rattle.std.specs.List.{flat_map}
use Rattle.std.proofs.lemmas.List.{append_assoc}
use Rattle.rule_grammar.proofs.ManyLaws.{many_back, many_spells}
use Rattle.rule_grammar.proofs.ReadLaws.{Shortens, Spells, code_spells, shortens_spelled, spells_after, spells_behind, spells_from_word}
use Rattle.rule_grammar.specs.inner.Parsing.{Reading, close_at, code_at, codes_at, comma_code_at, in_list_at, is_comma, list_at, many_at}
use Rattle.rule_grammar.specs.Statements.{list_tokens}
use Rattle.rule_grammar.specs.declared.statement.CodeList.{CodeList}
use Rattle.rule_grammar.specs.declared.token.Keyword.TheVariants as keyword
use Rattle.rule_grammar.specs.declared.token.Token.{Token}
use Rattle.rule_grammar.specs.declared.token.Token.TheVariants as token

-- a comma and a code
abbrev pub comma_code_tokens : List ℕ → List Token
comma_code_tokens code = token.Comma ∷ token.Code code ∷ []

comma_code_spells : (ts : List Token) → Spells comma_code_tokens ts (comma_code_at ts)
comma_code_spells (token.Comma ∷ ts) = behind (code_at ts) (code_spells ts)
  where
    behind : (reading : Reading (List ℕ)) → Spells (λ (code : List ℕ). token.Code code ∷ []) ts reading → Spells comma_code_tokens (token.Comma ∷ ts) reading
    behind None one = tt
    behind (Some found) one = ap (λ l. token.Comma ∷ l) one
comma_code_spells _ = tt

pub comma_code_shortens : (ts : List Token) → Shortens ts (comma_code_at ts)
comma_code_shortens ts = shortens_spelled comma_code_tokens ts (comma_code_at ts) (λ x. omega arith) (comma_code_spells ts)

close_spells : (first : List ℕ) (rest : List (List ℕ)) (ts : List Token)
    → Spells list_tokens (token.Open ∷ token.Code first ∷ (flat_map comma_code_tokens rest ++ ts)) (close_at (record { first = first; rest = rest }) ts)
close_spells first rest (token.Close ∷ ts) = ap (λ l. token.Open ∷ token.Code first ∷ l)
    (sym (append_assoc (flat_map comma_code_tokens rest) (token.Close ∷ []) ts))
close_spells first rest _ = tt

codes_spells : (first : List ℕ) (ts : List Token) → Spells list_tokens (token.Open ∷ token.Code first ∷ ts) (codes_at first ts)
codes_spells first ts = spells_after (λ rest. token.Open ∷ token.Code first ∷ flat_map comma_code_tokens rest) list_tokens (token.Open ∷ token.Code first ∷ ts)
    (many_at is_comma comma_code_at ts) (λ codes left. close_at (record { first = first; rest = codes }) left)
    (spells_behind (token.Open ∷ token.Code first ∷ []) (flat_map comma_code_tokens) ts (many_at is_comma comma_code_at ts)
    (many_spells is_comma comma_code_at comma_code_tokens comma_code_spells ts)) (close_spells first)

pub list_spells : (ts : List Token) → Spells list_tokens ts (list_at ts)
list_spells (token.Open ∷ ts) = spells_after (λ code. token.Open ∷ token.Code code ∷ []) list_tokens (token.Open ∷ ts) (code_at ts) codes_at
    (spells_behind (token.Open ∷ []) (λ (code : List ℕ). token.Code code ∷ []) ts (code_at ts) (code_spells ts)) codes_spells
list_spells _ = tt

-- `in` and a list
abbrev pub in_list_tokens : CodeList → List Token
in_list_tokens list = token.Keyword keyword.In ∷ list_tokens list

pub in_list_spells : (ts : List Token) → Spells in_list_tokens ts (in_list_at ts)
in_list_spells ts = spells_from_word keyword.In list_tokens list_at list_spells ts

-- ---- its tokens are read as it

comma_codes_back : (first : List ℕ) (rest : List (List ℕ)) (ts : List Token)
    → many_at is_comma comma_code_at (flat_map comma_code_tokens rest ++ token.Close ∷ ts) ≡ Some (rest, token.Close ∷ ts)
comma_codes_back first rest ts = many_back is_comma comma_code_at (λ t. false) comma_code_tokens (λ x left clear. refl) (λ x left. refl)
    (λ x left. refl) comma_code_shortens (token.Close ∷ ts) refl refl rest

pub in_list_back : (list : CodeList) (ts : List Token) → in_list_at (in_list_tokens list ++ ts) ≡ Some (list, ts)
in_list_back list ts =
    let joined : in_list_tokens list ++ ts ≡ token.Keyword keyword.In ∷ token.Open ∷ token.Code list.first ∷
    (flat_map comma_code_tokens list.rest ++ token.Close ∷ ts) =
    ap (λ l. token.Keyword keyword.In ∷ token.Open ∷ token.Code list.first ∷ l)
    (append_assoc (flat_map comma_code_tokens list.rest) (token.Close ∷ []) ts) in
    ap in_list_at joined ∙ rw (comma_codes_back list.first list.rest ts) refl
