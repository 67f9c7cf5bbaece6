-- What a statement means: the field that it declares, or the edit that it sets over the fields before it.
use Rattle.std.specs.Prelude.{ℕ, ℤ, suc, ◌+◌, ◌*◌, ◌++◌, Bool, Option, Some, None, List, [], ◌∷◌, find, map, position, unwrap_or, pos}
use Rattle.std.specs.Prelude.{neg_ℤ, ◌+ℤ◌, ◌-ℤ◌, if◌then◌else◌}
use Rattle.std.specs.List.{list_any}
use Rattle.std.specs.Ordering.{int_eq}
use Rattle.std.specs.Str.{bytes_eq}
use Rattle.edit_model.specs.Parts.{SurveyParts}
use Rattle.edit_model.specs.declared.field.Field.{Field}
use Rattle.edit_model.specs.declared.field.Kind.{Kind}
use Rattle.edit_model.specs.declared.field.Kind.TheVariants as kind
use Rattle.edit_model.specs.declared.rule.Compare.{Compare}
use Rattle.edit_model.specs.declared.rule.Linear.{Linear}
use Rattle.edit_model.specs.declared.rule.Rule.{Rule}
use Rattle.edit_model.specs.declared.rule.Term.{Term}
use Rattle.edit_model.specs.declared.rule.Test.{Test}
use Rattle.edit_model.specs.declared.rule.Test.TheVariants as test
use Rattle.rule_grammar.specs.declared.statement.CodeList.{CodeList}
use Rattle.rule_grammar.specs.declared.statement.Declaration.{Declaration as Declared}
use Rattle.rule_grammar.specs.declared.statement.Declaration.TheVariants as declaration
use Rattle.rule_grammar.specs.declared.statement.RuleText.{RuleText}
use Rattle.rule_grammar.specs.declared.statement.SignedTerm.{SignedTerm}
use Rattle.rule_grammar.specs.declared.statement.Statement.{Statement as Written}
use Rattle.rule_grammar.specs.declared.statement.Statement.TheVariants as statement
use Rattle.rule_grammar.specs.declared.statement.SumText.{SumText}
use Rattle.rule_grammar.specs.declared.statement.TermText.{TermText}
use Rattle.rule_grammar.specs.declared.statement.TermText.TheVariants as term
use Rattle.rule_grammar.specs.declared.statement.TestText.{TestText}
use Rattle.rule_grammar.specs.declared.statement.TestText.TheVariants as written
use Rattle.rule_grammar.specs.declared.token.Numeral.{Numeral}
use Rattle.rule_grammar.specs.declared.token.Numeral.TheVariants as numeral
use Rattle.rule_grammar.specs.declared.token.Sign.{Sign}
use Rattle.rule_grammar.specs.declared.token.Sign.TheVariants as sign

-- ---- numbers

-- the number that a numeral spells; one that is out of range is a fault of its line, whatever it counts for
abbrev pub numeral_value : Numeral → ℕ
numeral_value (numeral.Whole n) = n
numeral_value numeral.OutOfRange = 0

-- the number of a weight or a scale; 1 where it is not written
abbrev pub number_or_one : Option Numeral → ℕ
number_or_one None = 1
number_or_one (Some n) = numeral_value n

-- the number with its sign
abbrev pub signed : Sign → ℕ → ℤ
signed sign.Plus n = pos n
signed sign.Minus n = neg_ℤ (pos n)

-- ---- linear tests: everything is moved to the left side

-- the factor that a term gives the field of this name; 0 where it is another field's, or a constant
abbrev pub factor_in : List ℕ → TermText → ℕ
factor_in name (term.Product factor times field) = if bytes_eq field name then numeral_value factor else 0
factor_in name (term.Field field) = if bytes_eq field name then 1 else 0
factor_in name (term.Constant number) = 0

-- the constant that a term is; 0 where it is a field's
abbrev pub constant_in : TermText → ℕ
constant_in (term.Constant number) = numeral_value number
constant_in other = 0

-- all terms of a sum with their signs; a first term without a sign is added
abbrev pub terms_of : SumText → List SignedTerm
terms_of s = record { sign = unwrap_or s.sign sign.Plus; term = s.first } ∷ s.rest

-- the factors of a field, added up
abbrev pub factor_of : List ℕ → List SignedTerm → ℤ
factor_of name [] = pos 0
factor_of name (t ∷ ts) = signed t.sign (factor_in name t.term) +ℤ factor_of name ts

-- the constants, added up
abbrev pub constant_of : List SignedTerm → ℤ
constant_of [] = pos 0
constant_of (t ∷ ts) = signed t.sign (constant_in t.term) +ℤ constant_of ts

-- a field's factor, and the constant, of the left side without the right
abbrev pub moved_factor : SumText → SumText → List ℕ → ℤ
moved_factor left right name = factor_of name (terms_of left) -ℤ factor_of name (terms_of right)

abbrev pub moved_constant : SumText → SumText → ℤ
moved_constant left right = constant_of (terms_of left) -ℤ constant_of (terms_of right)

-- the terms of the fields from number i on whose factor is not 0, in declared order
abbrev pub moved_terms : SumText → SumText → ℕ → List Field → List Term
moved_terms left right i [] = []
moved_terms left right i (f ∷ fields) =
    if int_eq (moved_factor left right f.name) (pos 0)
    then moved_terms left right (suc i) fields
    else record { field = i; factor = moved_factor left right f.name } ∷ moved_terms left right (suc i) fields

-- ---- code tests

-- the number of the field with this name
abbrev pub number_named : List Field → List ℕ → Option ℕ
number_named fields name = position (λ (f : Field). bytes_eq f.name name) fields

-- the field that has the name
abbrev pub field_named : List Field → List ℕ → Option Field
field_named fields name = find (λ (f : Field). bytes_eq f.name name) fields

-- the codes of a categorical field
abbrev pub kind_codes : Kind → List (List ℕ)
kind_codes (kind.Number scale) = []
kind_codes (kind.Code codes) = codes

-- the codes of the field, none where there is no field
abbrev pub field_codes : Option Field → List (List ℕ)
field_codes None = []
field_codes (Some f) = kind_codes f.kind

-- all codes of a list
abbrev pub listed : CodeList → List (List ℕ)
listed l = l.first ∷ l.rest

-- whether the code stands in the list
abbrev pub is_listed : List (List ℕ) → List ℕ → Bool
is_listed list code = list_any (λ c. bytes_eq c code) list

-- the set of those of a field's codes that are listed, as bits: bit c stands for the code of number c
abbrev pub code_set : List (List ℕ) → List (List ℕ) → ℕ
code_set [] list = 0
code_set (code ∷ codes) list = (if is_listed list code then 1 else 0) + 2 * code_set codes list

-- ---- statements

-- both sums moved to the left side, and compared with 0
abbrev pub linear_of : List Field → SumText → Compare → SumText → Linear
linear_of fields left compare right =
    record { terms = moved_terms left right 0 fields; constant = moved_constant left right; compare = compare }

-- the test over these fields
abbrev pub test_of : List Field → TestText → Test
test_of fields (written.Codes field negated list) =
    test.Codes (unwrap_or (number_named fields field) 0) negated (code_set (field_codes (field_named fields field)) (listed list))
test_of fields (written.Sums left compare right) = test.Number (linear_of fields left compare right)

-- the edit over these fields
abbrev pub rule_of : List Field → RuleText → Rule
rule_of fields r = record { conditions = map (test_of fields) r.conditions; conclusion = test_of fields r.conclusion }

-- the field that is declared
abbrev pub field_of : Declared → Field
field_of (declaration.Number name weight scale) =
    record { name = name; weight = number_or_one weight; kind = kind.Number (number_or_one scale) }
field_of (declaration.Code name weight list) = record { name = name; weight = number_or_one weight; kind = kind.Code (listed list) }

-- the survey with one field or one edit more
abbrev pub extended : SurveyParts → Written → SurveyParts
extended survey (statement.Declaration d) = record { fields = survey.fields ++ field_of d ∷ []; rules = survey.rules }
extended survey (statement.Rule r) = record { fields = survey.fields; rules = survey.rules ++ rule_of survey.fields r ∷ [] }
