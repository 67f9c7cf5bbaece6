-- What is wrong with a statement, seen from the survey of the lines before it: for each kind of fault, when it is there.
use Rattle.std.specs.Prelude.{ℕ, ◌==◌, ◌&&◌, ◌||◌, ◌^◌, ◌++◌, not, Bool, true, false, Option, Some, None, List, [], ◌∷◌, codes, length}
use Rattle.std.specs.Prelude.{nat_le, nat_lt, unsigned_abs}
use Rattle.std.specs.Fmt.{decimal}
use Rattle.std.specs.List.{list_all, list_any}
use Rattle.std.specs.Str.{bytes_eq}
use Rattle.foundation.specs.Limits.{most_fields, most_codes, most_rules, most_weight, most_scale, most_factor}
use Rattle.edit_model.specs.Corrections.{is_numerical}
use Rattle.edit_model.specs.Parts.{SurveyParts}
use Rattle.edit_model.specs.declared.field.Field.{Field}
use Rattle.edit_model.specs.declared.field.Kind.{Kind}
use Rattle.edit_model.specs.declared.rule.Compare.TheVariants.{Eq}
use Rattle.rule_grammar.specs.declared.statement.CodeList.{CodeList}
use Rattle.rule_grammar.specs.declared.statement.Declaration.TheVariants as declaration
use Rattle.rule_grammar.specs.declared.statement.RuleText.{RuleText}
use Rattle.rule_grammar.specs.declared.statement.SignedTerm.{SignedTerm}
use Rattle.rule_grammar.specs.declared.statement.Statement.{Statement as Written}
use Rattle.rule_grammar.specs.declared.statement.Statement.TheVariants as statement
use Rattle.rule_grammar.specs.declared.statement.SumText.{SumText}
use Rattle.rule_grammar.specs.declared.statement.TermText.{TermText}
use Rattle.rule_grammar.specs.declared.statement.TermText.TheVariants as term
use Rattle.rule_grammar.specs.declared.statement.TestText.{TestText}
use Rattle.rule_grammar.specs.declared.statement.TestText.TheVariants as written
use Rattle.rule_grammar.specs.declared.token.Numeral.{Numeral}
use Rattle.rule_grammar.specs.declared.token.Numeral.TheVariants as numeral
use Rattle.edit_language.specs.Meaning.{field_codes, field_named, field_of, is_listed, listed, moved_constant, moved_factor, terms_of}
use Rattle.edit_language.specs.declared.fault.RulesFault.{RulesFault}
use Rattle.edit_language.specs.declared.fault.RulesFault.TheVariants as fault
use Rattle.edit_language.specs.declared.fault.RulesKind.{RulesKind}
use Rattle.edit_language.specs.declared.fault.RulesKind.TheVariants.{BadByte, Syntax, UnknownField, DoubleField, UnknownCode, DoubleCode}
use Rattle.edit_language.specs.declared.fault.RulesKind.TheVariants.{NumberRange, TooMany, ConditionForm}

-- ---- the kinds

-- the kinds' numbers
abbrev pub kind_number : RulesKind → ℕ
kind_number BadByte = 1
kind_number Syntax = 2
kind_number UnknownField = 3
kind_number DoubleField = 4
kind_number UnknownCode = 5
kind_number DoubleCode = 6
kind_number NumberRange = 7
kind_number TooMany = 8
kind_number ConditionForm = 9

-- the kinds' names
abbrev pub kind_name : RulesKind → List ℕ
kind_name BadByte = codes "BadByte"
kind_name Syntax = codes "Syntax"
kind_name UnknownField = codes "UnknownField"
kind_name DoubleField = codes "DoubleField"
kind_name UnknownCode = codes "UnknownCode"
kind_name DoubleCode = codes "DoubleCode"
kind_name NumberRange = codes "NumberRange"
kind_name TooMany = codes "TooMany"
kind_name ConditionForm = codes "ConditionForm"

-- how a fault is told
abbrev pub fault_text : RulesFault → List ℕ
fault_text (fault.At line kind) =
    codes "line " ++ decimal line ++ codes " kind " ++ decimal (kind_number kind) ++ codes " " ++ kind_name kind
fault_text fault.OutOfMemory = codes "out of memory"

-- ---- names

-- whether there is a field, and its kind passes
abbrev pub is_field_of_kind : (Kind → Bool) → Option Field → Bool
is_field_of_kind fits None = false
is_field_of_kind fits (Some f) = fits f.kind

-- whether a numerical field has the name
abbrev pub is_number_name : List Field → List ℕ → Bool
is_number_name fields name = is_field_of_kind is_numerical (field_named fields name)

-- whether a categorical field has the name
abbrev pub is_code_name : List Field → List ℕ → Bool
is_code_name fields name = is_field_of_kind (λ k. not (is_numerical k)) (field_named fields name)

-- whether the term's field, if it has one, is a numerical field
abbrev pub is_known_term : List Field → TermText → Bool
is_known_term fields (term.Product factor times field) = is_number_name fields field
is_known_term fields (term.Field field) = is_number_name fields field
is_known_term fields (term.Constant number) = true

-- whether each term of the sum has a numerical field, if it has one
abbrev pub is_known_sum : List Field → SumText → Bool
is_known_sum fields s = list_all (λ (t : SignedTerm). is_known_term fields t.term) (terms_of s)

-- whether each name of the test is of a field of the kind that its place needs
abbrev pub is_known_test : List Field → TestText → Bool
is_known_test fields (written.Codes field negated list) = is_code_name fields field
is_known_test fields (written.Sums left compare right) = is_known_sum fields left && is_known_sum fields right

-- ---- codes

-- whether each code of the list is one of the field's
abbrev pub are_known_codes : List Field → List ℕ → CodeList → Bool
are_known_codes fields field list = list_all (λ code. is_listed (field_codes (field_named fields field)) code) (listed list)

-- whether the field of a code test is known, and one of its codes is none of the field's
abbrev pub has_unknown_code : List Field → TestText → Bool
has_unknown_code fields (written.Codes field negated list) = is_code_name fields field && not (are_known_codes fields field list)
has_unknown_code fields (written.Sums left compare right) = false

-- whether a text stands twice in the list
abbrev pub has_double : List (List ℕ) → Bool
has_double [] = false
has_double (text ∷ texts) = is_listed texts text || has_double texts

-- whether a code stands twice in the test's list
abbrev pub has_double_code : TestText → Bool
has_double_code (written.Codes field negated list) = has_double (listed list)
has_double_code (written.Sums left compare right) = false

-- ---- numbers

-- whether the numeral is no whole number, or is above the limit
abbrev pub is_above : ℕ → Numeral → Bool
is_above limit (numeral.Whole n) = nat_lt limit n
is_above limit numeral.OutOfRange = true

-- whether the numeral is no whole number from 1 to the limit; one that is not written is 1
abbrev pub is_outside : ℕ → Option Numeral → Bool
is_outside limit None = false
is_outside limit (Some (numeral.Whole n)) = nat_lt n 1 || nat_lt limit n
is_outside limit (Some numeral.OutOfRange) = true

-- whether the number of a term is no whole number, or above its limit: 10^9 for a factor, 10^15 for a constant
abbrev pub is_large_term : TermText → Bool
is_large_term (term.Product factor times field) = is_above most_factor factor
is_large_term (term.Field field) = false
is_large_term (term.Constant number) = is_above (10 ^ 15) number

-- whether the number of a term of the sum is above its limit, or no whole number
abbrev pub is_large_sum : SumText → Bool
is_large_sum s = list_any (λ (t : SignedTerm). is_large_term t.term) (terms_of s)

-- whether the factors of the field with this name, added up, are above 10^9 in absolute value
abbrev pub is_large_factor : SumText → SumText → List ℕ → Bool
is_large_factor left right name = nat_lt most_factor (unsigned_abs (moved_factor left right name))

-- whether the factors of some field, added up, are above 10^9 in absolute value
abbrev pub has_large_factor : List Field → SumText → SumText → Bool
has_large_factor fields left right = list_any (λ (f : Field). is_large_factor left right f.name) fields

-- whether the constants, added up, are above 10^15 in absolute value
abbrev pub is_large_constant : SumText → SumText → Bool
is_large_constant left right = nat_lt (10 ^ 15) (unsigned_abs (moved_constant left right))

-- whether a number of two sums, or what is added up of them, is out of its limits
abbrev pub are_large_sums : List Field → SumText → SumText → Bool
are_large_sums fields left right =
    is_large_sum left || (is_large_sum right || (has_large_factor fields left right || is_large_constant left right))

-- whether a number of the test, or what is added up of its sums, is out of its limits; a code test has none
abbrev pub is_large_test : List Field → TestText → Bool
is_large_test fields (written.Codes field negated list) = false
is_large_test fields (written.Sums left compare right) = are_large_sums fields left right

-- ---- conditions

-- whether the test is a number test: two sums with a comparison between them
abbrev pub is_sums : TestText → Bool
is_sums (written.Codes field negated list) = false
is_sums (written.Sums left compare right) = true

-- whether the test is a number test that compares with `=`
abbrev pub is_equation : TestText → Bool
is_equation (written.Sums left Eq right) = true
is_equation other = false

-- a number test among the conditions is the only one, is no equation, and implies a code test
abbrev pub has_rule_form : RuleText → Bool
has_rule_form r =
    not (list_any is_sums r.conditions)
    || ((length r.conditions == 1) && (not (list_any is_equation r.conditions) && not (is_sums r.conclusion)))

-- ---- the faults of a statement

-- all tests of a statement; a declaration has none
abbrev pub tests_in : Written → List TestText
tests_in (statement.Declaration d) = []
tests_in (statement.Rule r) = r.conditions ++ r.conclusion ∷ []

-- whether the statement declares a name that a field has already
abbrev pub is_declared_again : List Field → Written → Bool
is_declared_again fields (statement.Declaration d) = list_any (λ (f : Field). bytes_eq f.name (field_of d).name) fields
is_declared_again fields (statement.Rule r) = false

-- whether a code stands twice in one list of the statement
abbrev pub has_code_twice : Written → Bool
has_code_twice (statement.Declaration (declaration.Number name weight scale)) = false
has_code_twice (statement.Declaration (declaration.Code name weight list)) = has_double (listed list)
has_code_twice (statement.Rule r) = list_any has_double_code (tests_in (statement.Rule r))

-- whether a weight, a scale, or a number of a test is out of its limits
abbrev pub is_out_of_range : List Field → Written → Bool
is_out_of_range fields (statement.Declaration (declaration.Number name weight scale)) =
    is_outside most_weight weight || is_outside most_scale scale
is_out_of_range fields (statement.Declaration (declaration.Code name weight list)) = is_outside most_weight weight
is_out_of_range fields (statement.Rule r) = list_any (is_large_test fields) (tests_in (statement.Rule r))

-- whether the statement declares the 65th field or more than 64 codes, or is the 501st rule
abbrev pub is_too_many : SurveyParts → Written → Bool
is_too_many before (statement.Declaration (declaration.Number name weight scale)) = nat_le most_fields (length before.fields)
is_too_many before (statement.Declaration (declaration.Code name weight list)) =
    nat_le most_fields (length before.fields) || nat_lt most_codes (length (listed list))
is_too_many before (statement.Rule r) = nat_le most_rules (length before.rules)

-- whether a number test stands among the conditions where it may not
abbrev pub has_wrong_form : Written → Bool
has_wrong_form (statement.Declaration d) = false
has_wrong_form (statement.Rule r) = not (has_rule_form r)

-- whether the statement, after the lines before it, has a fault of this kind; bad bytes and syntax are faults of a line
abbrev pub has_fault : SurveyParts → Written → RulesKind → Bool
has_fault before s UnknownField = not (list_all (is_known_test before.fields) (tests_in s))
has_fault before s DoubleField = is_declared_again before.fields s
has_fault before s UnknownCode = list_any (has_unknown_code before.fields) (tests_in s)
has_fault before s DoubleCode = has_code_twice s
has_fault before s NumberRange = is_out_of_range before.fields s
has_fault before s TooMany = is_too_many before s
has_fault before s ConditionForm = has_wrong_form s
has_fault before s kind = false
