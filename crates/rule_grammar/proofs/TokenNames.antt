-- The names in the tokens of a text have the form of names, and so have those of a statement that the text says.
use Rattle.std.proofs.Common.{◌≡◌, subst, ℕ, Bool, true, false, List, [], ◌∷◌, ◌++◌}
use Rattle.std.proofs.lemmas.List.Elements.{All-cons, All-nil}
use Rattle.std.specs.List.{AllByRecursion, flat_map}
use Rattle.std.specs.Prelude.{All}
use Rattle.edit_model.specs.Surveys.{IsName}
use Rattle.rule_grammar.proofs.LongestTokens.{tokens_are_longest}
use Rattle.rule_grammar.specs.Names.{GivesNames, IsCodeText}
use Rattle.rule_grammar.specs.Spellings.{AreLongestTokens, IsSpelled}
use Rattle.rule_grammar.specs.Statements.{option_tokens, statement_tokens}
use Rattle.rule_grammar.specs.Tokens.{is_inside_after, tokens_of}
use Rattle.rule_grammar.specs.inner.Fronts.{tokens_from}
use Rattle.rule_grammar.specs.declared.statement.Declaration.TheVariants as declaration
use Rattle.rule_grammar.specs.declared.statement.Statement.{Statement as Written}
use Rattle.rule_grammar.specs.declared.statement.Statement.TheVariants as statement
use Rattle.rule_grammar.specs.declared.token.Keyword.TheVariants as keyword
use Rattle.rule_grammar.specs.declared.token.Token.{Token}
use Rattle.rule_grammar.specs.declared.token.Token.TheVariants as token

-- what a token names has the form of a field's name, or of a code
abbrev pub HasNameForm : Token → Type 0
HasNameForm (token.Name name) = IsName name
HasNameForm (token.Code code) = IsCodeText code
HasNameForm _ = Unit {0}

token_form : (inside : Bool) (t : Token) (bytes : List ℕ) → IsSpelled inside t bytes → HasNameForm t
token_form false (token.Name name) bytes spelled = spelled.1
token_form true (token.Name name) bytes spelled = absurd spelled
token_form false (token.Code code) bytes spelled = absurd spelled
token_form true (token.Code code) bytes spelled = spelled.1
token_form _ _ bytes spelled = tt

longest_form : (inside : Bool) (text : List ℕ) (ts : List Token) → AreLongestTokens inside text ts → AllByRecursion HasNameForm ts
longest_form inside text [] longest = tt
longest_form inside text (t ∷ ts) longest =
    (token_form inside t longest.1.front longest.1.spelled, longest_form (is_inside_after inside t) longest.0 ts longest.2)

pub tokens_form : (inside : Bool) (text : List ℕ) → AllByRecursion HasNameForm (tokens_from inside text)
tokens_form inside text = longest_form inside text (tokens_from inside text) (tokens_are_longest inside text)

-- ---- the names of a statement

-- of two lists joined, the second
second_form : (front back : List Token) → AllByRecursion HasNameForm (front ++ back) → AllByRecursion HasNameForm back
second_form [] back all = all
second_form (t ∷ front) back all = second_form front back all.1

codes_form : (codes : List (List ℕ)) (back : List Token)
    → AllByRecursion HasNameForm (flat_map (λ (code : List ℕ). token.Comma ∷ token.Code code ∷ []) codes ++ back) → All IsCodeText codes
codes_form [] back all = All-nil IsCodeText
codes_form (code ∷ codes) back all = All-cons IsCodeText code codes all.1.0 (codes_form codes back all.1.1)

statement_form : (s : Written) → AllByRecursion HasNameForm (statement_tokens s) → GivesNames s
statement_form (statement.Declaration (declaration.Number name weight scale)) all = all.1.0
statement_form (statement.Declaration (declaration.Code name weight list)) all =
    let listed = second_form (option_tokens (token.Keyword keyword.Weight) weight) _ all.1.1 in
    (all.1.0, All-cons IsCodeText list.first list.rest listed.1.1.0 (codes_form list.rest (token.Close ∷ []) listed.1.1.1))
statement_form (statement.Rule r) all = tt

-- the statement that a text says gives names in their form
pub names_of_text : (text : List ℕ) (s : Written) → tokens_of text ≡ statement_tokens s → GivesNames s
names_of_text text s same = statement_form s (subst (AllByRecursion HasNameForm) same (tokens_form false text))
