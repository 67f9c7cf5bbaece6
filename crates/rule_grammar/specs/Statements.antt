-- The tokens of a statement. These equations are the grammar: a line is a statement where its tokens are the statement's.
use Rattle.std.specs.Prelude.{ℕ, Bool, Option, Some, None, List, [], ◌∷◌, ◌++◌, if◌then◌else◌}
use Rattle.std.specs.List.{flat_map}
use Rattle.rule_grammar.specs.declared.statement.CodeList.{CodeList}
use Rattle.rule_grammar.specs.declared.statement.Declaration.{Declaration as Declared}
use Rattle.rule_grammar.specs.declared.statement.Declaration.TheVariants as declaration
use Rattle.rule_grammar.specs.declared.statement.RuleText.{RuleText}
use Rattle.rule_grammar.specs.declared.statement.SignedTerm.{SignedTerm}
use Rattle.rule_grammar.specs.declared.statement.Statement.{Statement as Written}
use Rattle.rule_grammar.specs.declared.statement.Statement.TheVariants as statement
use Rattle.rule_grammar.specs.declared.statement.SumText.{SumText}
use Rattle.rule_grammar.specs.declared.statement.TermText.{TermText}
use Rattle.rule_grammar.specs.declared.statement.TermText.TheVariants as term
use Rattle.rule_grammar.specs.declared.statement.TestText.{TestText}
use Rattle.rule_grammar.specs.declared.statement.TestText.TheVariants as test
use Rattle.rule_grammar.specs.declared.token.Keyword.TheVariants as keyword
use Rattle.rule_grammar.specs.declared.token.Numeral.{Numeral}
use Rattle.rule_grammar.specs.declared.token.Sign.{Sign}
use Rattle.rule_grammar.specs.declared.token.Token.{Token}
use Rattle.rule_grammar.specs.declared.token.Token.TheVariants as token

-- term = NUM [ "*" ] NAME | NAME | NUM
abbrev pub term_tokens : TermText → List Token
term_tokens (term.Product factor times field) =
    token.Numeral factor ∷ ((if times then token.Times ∷ [] else []) ++ token.Name field ∷ [])
term_tokens (term.Field field) = token.Name field ∷ []
term_tokens (term.Constant number) = token.Numeral number ∷ []

-- sign term
abbrev pub signed_term_tokens : SignedTerm → List Token
signed_term_tokens s = token.Sign s.sign ∷ term_tokens s.term

-- [ sign ]
abbrev pub sign_tokens : Option Sign → List Token
sign_tokens None = []
sign_tokens (Some s) = token.Sign s ∷ []

-- sum = [ sign ] term { sign term }
abbrev pub sum_tokens : SumText → List Token
sum_tokens s = sign_tokens s.sign ++ term_tokens s.first ++ flat_map signed_term_tokens s.rest

-- "," CODE
abbrev pub comma_code_tokens : List ℕ → List Token
comma_code_tokens code = token.Comma ∷ token.Code code ∷ []

-- list = "{" CODE { "," CODE } "}"
abbrev pub list_tokens : CodeList → List Token
list_tokens l = token.Open ∷ token.Code l.first ∷ (flat_map comma_code_tokens l.rest ++ token.Close ∷ [])

-- [ "not" ]
abbrev pub not_tokens : Bool → List Token
not_tokens negated = if negated then token.Keyword keyword.Not ∷ [] else []

-- test = NAME [ "not" ] "in" list | sum compare sum
abbrev pub test_tokens : TestText → List Token
test_tokens (test.Codes field negated list) = token.Name field ∷ (not_tokens negated ++ token.Keyword keyword.In ∷ list_tokens list)
test_tokens (test.Sums left compare right) = sum_tokens left ++ token.Compare compare ∷ sum_tokens right

-- "and" test
abbrev pub and_test_tokens : TestText → List Token
and_test_tokens t = token.Keyword keyword.And ∷ test_tokens t

-- [ "if" test { "and" test } "then" ], nothing where there is no condition
abbrev pub conditions_tokens : List TestText → List Token
conditions_tokens [] = []
conditions_tokens (first ∷ rest) =
    token.Keyword keyword.If ∷ (test_tokens first ++ flat_map and_test_tokens rest ++ token.Keyword keyword.Then ∷ [])

-- rule = test | "if" test { "and" test } "then" test
abbrev pub rule_tokens : RuleText → List Token
rule_tokens r = conditions_tokens r.conditions ++ test_tokens r.conclusion

-- [ keyword NUM ]
abbrev pub option_tokens : Token → Option Numeral → List Token
option_tokens word None = []
option_tokens word (Some number) = word ∷ token.Numeral number ∷ []

-- [ "weight" NUM ]
abbrev pub weight_tokens : Option Numeral → List Token
weight_tokens weight = option_tokens (token.Keyword keyword.Weight) weight

-- declare = "number" NAME [ "weight" NUM ] [ "scale" NUM ] | "code" NAME [ "weight" NUM ] "in" list
abbrev pub declaration_tokens : Declared → List Token
declaration_tokens (declaration.Number name weight scale) =
    token.Keyword keyword.Number ∷ token.Name name ∷ (weight_tokens weight ++ option_tokens (token.Keyword keyword.Scale) scale)
declaration_tokens (declaration.Code name weight list) =
    token.Keyword keyword.Code ∷ token.Name name ∷ (weight_tokens weight ++ token.Keyword keyword.In ∷ list_tokens list)

-- the tokens of a line that says this
abbrev pub statement_tokens : Written → List Token
statement_tokens (statement.Declaration d) = declaration_tokens d
statement_tokens (statement.Rule r) = rule_tokens r
