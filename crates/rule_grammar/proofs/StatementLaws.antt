-- A statement is read from its tokens alone, so tokens are at most one statement's.
use Rattle.std.proofs.Common.{◌≡◌, ◌≢◌, refl, sym, ap, subst, ◌∙◌, Bool, true, false, Some, None, List, [], ◌∷◌, if◌then◌else◌}
use Rattle.std.proofs.lemmas.List.{append-nil}
use Rattle.rule_grammar.proofs.DeclarationLaws.{code_field_back, code_field_spells, number_back, number_spells}
use Rattle.rule_grammar.proofs.ReadLaws.{Spells, spells_as, spells_read, word_begins}
use Rattle.rule_grammar.proofs.RuleLaws.{rule_back, rule_begins, rule_spells}
use Rattle.rule_grammar.specs.inner.Parsing.{Reading, begins, code_field_at, is_word, number_at, rest_of, rule_at, statement_at, then_read}
use Rattle.rule_grammar.specs.Statements.{declaration_tokens, rule_tokens, statement_tokens}
use Rattle.rule_grammar.specs.declared.statement.Declaration.{Declaration as Declared}
use Rattle.rule_grammar.specs.declared.statement.Declaration.TheVariants as declaration
use Rattle.rule_grammar.specs.declared.statement.Statement.{Statement as Written}
use Rattle.rule_grammar.specs.declared.statement.Statement.TheVariants as statement
use Rattle.rule_grammar.specs.declared.token.Keyword.TheVariants as keyword
use Rattle.rule_grammar.specs.declared.token.Token.{Token}

-- what is read as a statement has its tokens
pub statement_spells : (ts : List Token) → Spells statement_tokens ts (statement_at ts)
statement_spells ts = by_number (begins (is_word keyword.Number) ts) refl
  where
    declared : (all : List Token) (reading : Reading Declared) → Spells declaration_tokens all reading
        → Spells statement_tokens all (then_read reading (λ d left. Some (statement.Declaration d, left)))
    declared all reading one = spells_as declaration_tokens statement_tokens (λ d. statement.Declaration d) all reading (λ d. refl) one

    by_code : (found : Bool) → begins (is_word keyword.Code) ts ≡ found
        → Spells statement_tokens ts (if found then then_read (code_field_at (rest_of ts)) (λ d left. Some (statement.Declaration d, left)) else then_read
        (rule_at ts) (λ r left. Some (statement.Rule r, left)))
    by_code true is = declared ts (code_field_at (rest_of ts))
        (subst (λ all. Spells declaration_tokens all (code_field_at (rest_of ts))) (sym (word_begins keyword.Code ts is)) (code_field_spells (rest_of ts)))
    by_code false is = spells_as rule_tokens statement_tokens (λ r. statement.Rule r) ts (rule_at ts) (λ r. refl) (rule_spells ts)

    by_number : (found : Bool) → begins (is_word keyword.Number) ts ≡ found
        → Spells statement_tokens ts (if found then then_read (number_at (rest_of ts)) (λ d left. Some (statement.Declaration d, left)) else if begins
        (is_word keyword.Code) ts then then_read (code_field_at (rest_of ts)) (λ d left. Some (statement.Declaration d, left)) else then_read (rule_at ts)
        (λ r left. Some (statement.Rule r, left)))
    by_number true is = declared ts (number_at (rest_of ts))
        (subst (λ all. Spells declaration_tokens all (number_at (rest_of ts))) (sym (word_begins keyword.Number ts is)) (number_spells (rest_of ts)))
    by_number false is = by_code (begins (is_word keyword.Code) ts) refl

-- its tokens are read as it
pub statement_back : (s : Written) → statement_at (statement_tokens s) ≡ Some (s, [])
statement_back (statement.Declaration (declaration.Number name weight scale)) = rw (number_back name weight scale) refl
statement_back (statement.Declaration (declaration.Code name weight list)) = rw (code_field_back name weight list) refl
statement_back (statement.Rule r) =
    let read : rule_at (rule_tokens r) ≡ Some (r, []) = ap rule_at (sym (append-nil (rule_tokens r))) ∙ rule_back r [] refl in
    rw (rule_begins keyword.Number r refl, rule_begins keyword.Code r refl, read) refl

-- tokens are one statement's at most
pub one_statement : (s t : Written) → statement_tokens s ≡ statement_tokens t → s ≡ t
one_statement s t same = ap (told s) (sym (statement_back s) ∙ (ap statement_at same ∙ statement_back t))
  where
    told : Written → Reading Written → Written
    told other None = other
    told other (Some found) = found.0

some_is_not_none : {X : Type 0} (reading : Reading X) (found : X × List Token) → reading ≡ None → reading ≡ Some found → ⊥
some_is_not_none reading found none some = cc

left_is_not_nothing : {X : Type 0} (reading : Reading X) (x y : X) (first : Token) (left : List Token) → reading ≡ Some (x, first ∷ left)
    → reading ≡ Some (y, []) → ⊥
left_is_not_nothing {X} reading x y first left some none =
    let same : first ∷ left ≡ [] = ap left_of (sym some ∙ none) in
    cc
  where
    left_of : Reading X → List Token
    left_of None = []
    left_of (Some found) = found.1

-- what is read from tokens that are a statement's
read_from : (ts : List Token) (t : Written) → ts ≡ statement_tokens t → statement_at ts ≡ Some (t, [])
read_from ts t same = ap statement_at same ∙ statement_back t

-- tokens that are read with some left are no statement's
pub not_left : (ts : List Token) (s t : Written) (first : Token) (left : List Token) → statement_at ts ≡ Some (s, first ∷ left) → ts ≢ statement_tokens t
not_left ts s t first left read same = left_is_not_nothing (statement_at ts) s t first left read (read_from ts t same)

-- tokens that are not read are no statement's
pub not_read : (ts : List Token) (t : Written) → statement_at ts ≡ None → ts ≢ statement_tokens t
not_read ts t read same = some_is_not_none (statement_at ts) (t, []) read (read_from ts t same)

-- tokens that are read to the end are the statement's
pub read_whole : (ts : List Token) (s : Written) → statement_at ts ≡ Some (s, []) → ts ≡ statement_tokens s
read_whole ts s read = spells_read statement_tokens ts [] s (statement_at ts) (statement_spells ts) read ∙ append-nil (statement_tokens s)

-- no statement is without tokens
pub says_some : (s : Written) → statement_tokens s ≢ []
says_some s none = not_read [] s refl (sym none)
