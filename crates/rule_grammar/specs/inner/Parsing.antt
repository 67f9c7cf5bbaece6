-- How the parser reads a statement off a list of tokens, one production after another. The grammar itself is in `Statements`.
use Rattle.std.specs.Prelude.{◌≡◌, ℕ, zero, suc, ◌==◌, Bool, true, false, Option, Some, None, Result, Ok, Err, List, [], ◌∷◌, length}
use Rattle.std.specs.Prelude.{if◌then◌else◌}
use Rattle.edit_model.specs.declared.rule.Compare.{Compare as Comparison}
use Rattle.rule_grammar.specs.declared.parser.fault.Fault.{Fault as Stop}
use Rattle.rule_grammar.specs.declared.parser.fault.Fault.TheVariants as stop
use Rattle.rule_grammar.specs.declared.statement.CodeList.{CodeList}
use Rattle.rule_grammar.specs.declared.statement.Declaration.{Declaration as Declared}
use Rattle.rule_grammar.specs.declared.statement.Declaration.TheVariants as declaration
use Rattle.rule_grammar.specs.declared.statement.RuleText.{RuleText}
use Rattle.rule_grammar.specs.declared.statement.SignedTerm.{SignedTerm}
use Rattle.rule_grammar.specs.declared.statement.Statement.{Statement as Written}
use Rattle.rule_grammar.specs.declared.statement.Statement.TheVariants as statement
use Rattle.rule_grammar.specs.declared.statement.SumText.{SumText}
use Rattle.rule_grammar.specs.declared.statement.TermText.{TermText}
use Rattle.rule_grammar.specs.declared.statement.TermText.TheVariants as term
use Rattle.rule_grammar.specs.declared.statement.TestText.{TestText}
use Rattle.rule_grammar.specs.declared.statement.TestText.TheVariants as test
use Rattle.rule_grammar.specs.declared.token.Keyword.{Keyword as Word}
use Rattle.rule_grammar.specs.declared.token.Keyword.TheVariants as keyword
use Rattle.rule_grammar.specs.declared.token.Numeral.{Numeral}
use Rattle.rule_grammar.specs.declared.token.Sign.{Sign}
use Rattle.rule_grammar.specs.declared.token.Token.{Token}
use Rattle.rule_grammar.specs.declared.token.Token.TheVariants as token

-- what a production reads at the front, and the tokens after it; None where they do not begin with one
abbrev pub Reading : Type 0 → Type 0
Reading X = Option (X × List Token)

-- a call that takes no memory read this, and left these tokens; it answers None where nothing is read
abbrev pub Reads : {X : Type 0} → Reading X → List Token → Option X → Type 0
Reads reading left (Some x) = reading ≡ Some (x, left)
Reads reading left None = reading ≡ None

-- a call that may be out of memory read this, and left these tokens; it answers `Unreadable` where nothing is read
abbrev pub Parses : {X : Type 0} → Reading X → List Token → Result X Stop → Type 0
Parses reading left (Ok x) = reading ≡ Some (x, left)
Parses reading left (Err stop.Unreadable) = reading ≡ None
Parses reading left (Err stop.OutOfMemory) = Unit {0}

-- what is read behind a first thing, which it may name
abbrev pub then_read : {X Y : Type 0} → Reading X → (X → List Token → Reading Y) → Reading Y
then_read None next = None
then_read (Some found) next = next found.0 found.1

-- ---- single tokens

-- the number of a keyword
abbrev pub word_number : Word → ℕ
word_number keyword.Number = 0
word_number keyword.Code = 1
word_number keyword.Weight = 2
word_number keyword.Scale = 3
word_number keyword.In = 4
word_number keyword.Not = 5
word_number keyword.If = 6
word_number keyword.And = 7
word_number keyword.Then = 8

-- this keyword
abbrev pub is_word : Word → Token → Bool
is_word wanted (token.Keyword word) = word_number word == word_number wanted
is_word wanted _ = false

-- the name of a field
abbrev pub is_name_token : Token → Bool
is_name_token (token.Name name) = true
is_name_token _ = false

-- a sign
abbrev pub is_sign : Token → Bool
is_sign (token.Sign s) = true
is_sign _ = false

-- a comma
abbrev pub is_comma : Token → Bool
is_comma token.Comma = true
is_comma _ = false

-- whether there is a first token that `is_such` takes
abbrev pub begins : (Token → Bool) → List Token → Bool
begins is_such [] = false
begins is_such (t ∷ ts) = is_such t

-- whether there is no token
abbrev pub ends : List Token → Bool
ends [] = true
ends (t ∷ ts) = false

-- the tokens without the first
abbrev pub rest_of : List Token → List Token
rest_of [] = []
rest_of (t ∷ ts) = ts

-- the name of a field at the front
abbrev pub name_at : List Token → Reading (List ℕ)
name_at (token.Name name ∷ ts) = Some (name, ts)
name_at _ = None

-- a numeral at the front
abbrev pub numeral_at : List Token → Reading Numeral
numeral_at (token.Numeral number ∷ ts) = Some (number, ts)
numeral_at _ = None

-- a code at the front
abbrev pub code_at : List Token → Reading (List ℕ)
code_at (token.Code code ∷ ts) = Some (code, ts)
code_at _ = None

-- a sign at the front
abbrev pub sign_at : List Token → Reading Sign
sign_at (token.Sign s ∷ ts) = Some (s, ts)
sign_at _ = None

-- a comparison at the front
abbrev pub compare_at : List Token → Reading Comparison
compare_at (token.Compare compare ∷ ts) = Some (compare, ts)
compare_at _ = None

-- ---- one after another

-- one after another, as long as `begin` takes the first token, fewer than `n`
abbrev pub many_within : {X : Type 0} → (Token → Bool) → (List Token → Reading X) → ℕ → List Token → Reading (List X)
many_within begin one zero ts = None
many_within begin one (suc n) ts =
    if begins begin ts
    then then_read (one ts) (λ x left. then_read (many_within begin one n left) (λ xs last. Some (x ∷ xs, last)))
    else Some ([], ts)

-- one after another, as long as `begin` takes the first token; each takes a token at least, so there are at most as many as tokens
abbrev pub many_at : {X : Type 0} → (Token → Bool) → (List Token → Reading X) → List Token → Reading (List X)
many_at begin one ts = many_within begin one (suc (length ts)) ts

-- ---- sums

-- the term that begins with this numeral
abbrev pub factor_at : Numeral → List Token → Reading TermText
factor_at number (token.Name field ∷ ts) = Some (term.Product number false field, ts)
factor_at number (token.Times ∷ ts) = then_read (name_at ts) (λ field left. Some (term.Product number true field, left))
factor_at number ts = Some (term.Constant number, ts)

-- term = NUM [ "*" ] NAME | NAME | NUM
abbrev pub term_at : List Token → Reading TermText
term_at (token.Name field ∷ ts) = Some (term.Field field, ts)
term_at (token.Numeral number ∷ ts) = factor_at number ts
term_at _ = None

-- sign term
abbrev pub signed_term_at : List Token → Reading SignedTerm
signed_term_at ts =
    then_read (sign_at ts) (λ s after_sign. then_read (term_at after_sign) (λ t left. Some (record { sign = s; term = t }, left)))

-- the sum that begins with this sign and this term
abbrev pub sum_after : Option Sign → TermText → List Token → Reading SumText
sum_after s t ts = then_read (many_at is_sign signed_term_at ts) (λ more left. Some (record { sign = s; first = t; rest = more }, left))

-- sum = [ sign ] term { sign term }
abbrev pub sum_at : List Token → Reading SumText
sum_at ts =
    if begins is_sign ts then then_read (sign_at ts) (λ s after_sign. then_read (term_at after_sign) (sum_after (Some s)))
    else then_read (term_at ts) (sum_after None)

-- ---- lists of codes

-- "," CODE
abbrev pub comma_code_at : List Token → Reading (List ℕ)
comma_code_at (token.Comma ∷ ts) = code_at ts
comma_code_at _ = None

-- the brace behind this list
abbrev pub close_at : CodeList → List Token → Reading CodeList
close_at list (token.Close ∷ ts) = Some (list, ts)
close_at list _ = None

-- the list that begins with this code, behind its first brace
abbrev pub codes_at : List ℕ → List Token → Reading CodeList
codes_at code ts = then_read (many_at is_comma comma_code_at ts) (λ codes left. close_at (record { first = code; rest = codes }) left)

-- list = "{" CODE { "," CODE } "}"
abbrev pub list_at : List Token → Reading CodeList
list_at (token.Open ∷ ts) = then_read (code_at ts) codes_at
list_at _ = None

-- `in` and a list
abbrev pub in_list_at : List Token → Reading CodeList
in_list_at ts = if begins (is_word keyword.In) ts then list_at (rest_of ts) else None

-- ---- tests

-- the test of two sums whose left one is this
abbrev pub compared_at : SumText → List Token → Reading TestText
compared_at left ts =
    then_read (compare_at ts) (λ compare behind.
    then_read (sum_at behind) (λ right last. Some (test.Sums left compare right, last)))

-- the test of two sums that begins with this name
abbrev pub sums_after : List ℕ → List Token → Reading TestText
sums_after field ts = then_read (sum_after None (term.Field field) ts) compared_at

-- the test of codes of this field
abbrev pub codes_after : List ℕ → Bool → List Token → Reading TestText
codes_after field negated ts = then_read (in_list_at ts) (λ list left. Some (test.Codes field negated list, left))

-- the test that begins with this name
abbrev pub test_after : List ℕ → List Token → Reading TestText
test_after field ts =
    if begins (is_word keyword.Not) ts then codes_after field true (rest_of ts)
    else if begins (is_word keyword.In) ts then codes_after field false ts
    else sums_after field ts

-- test = NAME [ "not" ] "in" list | sum compare sum
abbrev pub test_at : List Token → Reading TestText
test_at ts =
    if begins is_name_token ts then then_read (name_at ts) test_after
    else then_read (sum_at ts) compared_at

-- ---- rules

-- a test behind `and`
abbrev pub and_test_at : List Token → Reading TestText
and_test_at ts = if begins (is_word keyword.And) ts then test_at (rest_of ts) else None

-- the conditions that begin with this one
abbrev pub and_tests_at : TestText → List Token → Reading (List TestText)
and_tests_at first ts = then_read (many_at (is_word keyword.And) and_test_at ts) (λ more left. Some (first ∷ more, left))

-- the rule with these conditions, behind its `then`
abbrev pub concluded_at : List TestText → List Token → Reading RuleText
concluded_at tests ts = then_read (test_at ts) (λ last left. Some (record { conditions = tests; conclusion = last }, left))

-- `then` and a test, behind these conditions
abbrev pub then_at : List TestText → List Token → Reading RuleText
then_at tests ts = if begins (is_word keyword.Then) ts then concluded_at tests (rest_of ts) else None

-- a rule with conditions, behind its `if`
abbrev pub conditional_at : List Token → Reading RuleText
conditional_at ts = then_read (test_at ts) (λ first left. then_read (and_tests_at first left) then_at)

-- rule = test | "if" test { "and" test } "then" test
abbrev pub rule_at : List Token → Reading RuleText
rule_at ts = if begins (is_word keyword.If) ts then conditional_at (rest_of ts) else concluded_at [] ts

-- ---- declarations

-- a keyword and its numeral, or nothing
abbrev pub option_at : Word → List Token → Reading (Option Numeral)
option_at word ts =
    if begins (is_word word) ts then then_read (numeral_at (rest_of ts)) (λ number left. Some (Some number, left)) else Some (None, ts)

-- the declaration of a number, behind its first word
abbrev pub number_at : List Token → Reading Declared
number_at ts =
    then_read (name_at ts) (λ name left.
    then_read (option_at keyword.Weight left) (λ weight more.
    then_read (option_at keyword.Scale more) (λ scale last. Some (declaration.Number name weight scale, last))))

-- the declaration of codes, behind its first word
abbrev pub code_field_at : List Token → Reading Declared
code_field_at ts =
    then_read (name_at ts) (λ name left.
    then_read (option_at keyword.Weight left) (λ weight more.
    then_read (in_list_at more) (λ list last. Some (declaration.Code name weight list, last))))

-- ---- statements

-- a declaration or a rule
abbrev pub statement_at : List Token → Reading Written
statement_at ts =
    if begins (is_word keyword.Number) ts then then_read (number_at (rest_of ts)) (λ d left. Some (statement.Declaration d, left))
    else if begins (is_word keyword.Code) ts then then_read (code_field_at (rest_of ts)) (λ d left. Some (statement.Declaration d, left))
    else then_read (rule_at ts) (λ r left. Some (statement.Rule r, left))
