-- The order in which the reader tries a statement for faults: by kind, the least first.
use Rattle.std.specs.Prelude.{◌≡◌, ◌≤◌, ◌||◌, not, Bool, true, Option, Some, None, List, [], ◌∷◌, length, nat_le, nat_lt, if◌then◌else◌}
use Rattle.std.specs.List.{list_all, list_any}
use Rattle.std.specs.Str.{bytes_eq}
use Rattle.foundation.specs.Limits.{most_fields, most_codes, most_rules, most_weight, most_scale}
use Rattle.edit_model.specs.Parts.{SurveyParts, survey_of}
use Rattle.edit_model.specs.declared.field.Field.{Field}
use Rattle.edit_model.specs.declared.rule.Rule.{Rule}
use Rattle.rule_grammar.specs.declared.statement.Declaration.{Declaration as Declared}
use Rattle.rule_grammar.specs.declared.statement.Declaration.TheVariants as declaration
use Rattle.rule_grammar.specs.declared.statement.RuleText.{RuleText}
use Rattle.rule_grammar.specs.declared.statement.Statement.{Statement as Written}
use Rattle.rule_grammar.specs.declared.statement.Statement.TheVariants as statement
use Rattle.rule_grammar.specs.declared.statement.TestText.{TestText}
use Rattle.rule_grammar.specs.declared.statement.TestText.TheVariants as written
use Rattle.edit_language.specs.Faults.{are_known_codes, has_double, has_double_code, has_fault, has_rule_form, is_known_test, is_large_test}
use Rattle.edit_language.specs.Faults.{is_outside, kind_number, tests_in}
use Rattle.edit_language.specs.Meaning.{listed}
use Rattle.edit_language.specs.declared.fault.RulesKind.{RulesKind}
use Rattle.edit_language.specs.declared.fault.RulesKind.TheVariants.{UnknownField, DoubleField, UnknownCode, DoubleCode, NumberRange}
use Rattle.edit_language.specs.declared.fault.RulesKind.TheVariants.{TooMany, ConditionForm}

-- all tests of a rule
abbrev pub tests_of : RuleText → List TestText
tests_of r = tests_in (statement.Rule r)

-- whether each code of a code test is a code of its field
abbrev pub has_known_codes : List Field → TestText → Bool
has_known_codes fields (written.Codes field negated list) = are_known_codes fields field list
has_known_codes fields (written.Sums left compare right) = true

-- the kind of the first test that is true
abbrev pub first_true : List (Bool × RulesKind) → Option RulesKind
first_true [] = None
first_true (test ∷ tests) = if test.0 then Some test.1 else first_true tests

-- the least kind of fault of a declaration after these lines; None where it has none
abbrev pub declaration_fault : SurveyParts → Declared → Option RulesKind
declaration_fault survey (declaration.Number name weight scale) = first_true (
    (list_any (λ (f : Field). bytes_eq f.name name) survey.fields, DoubleField)
    ∷ (is_outside most_weight weight || is_outside most_scale scale, NumberRange)
    ∷ (nat_le most_fields (length survey.fields), TooMany) ∷ [])
declaration_fault survey (declaration.Code name weight list) = first_true (
    (list_any (λ (f : Field). bytes_eq f.name name) survey.fields, DoubleField)
    ∷ (has_double (listed list), DoubleCode)
    ∷ (is_outside most_weight weight, NumberRange)
    ∷ (nat_le most_fields (length survey.fields) || nat_lt most_codes (length (listed list)), TooMany) ∷ [])

-- this is the least kind of fault of the declaration after these fields, or None, whatever the rules before it are
abbrev pub IsDeclarationFault : List Field → Declared → Option RulesKind → Type 0
IsDeclarationFault fields d fault = (rules : List Rule) → fault ≡ declaration_fault (survey_of fields rules) d

-- the least kind of fault of a rule after these lines; None where it has none
abbrev pub rule_fault : SurveyParts → RuleText → Option RulesKind
rule_fault survey r = first_true (
    (not (list_all (is_known_test survey.fields) (tests_of r)), UnknownField)
    ∷ (not (list_all (has_known_codes survey.fields) (tests_of r)), UnknownCode)
    ∷ (list_any has_double_code (tests_of r), DoubleCode)
    ∷ (list_any (is_large_test survey.fields) (tests_of r), NumberRange)
    ∷ (nat_le most_rules (length survey.rules), TooMany)
    ∷ (not (has_rule_form r), ConditionForm) ∷ [])

-- the kind that is found for the statement after these lines, None where none is
abbrev pub fault_of : SurveyParts → Written → Option RulesKind
fault_of survey (statement.Declaration d) = declaration_fault survey d
fault_of survey (statement.Rule r) = rule_fault survey r

-- the least kind of fault that the statement has after these lines
pub record IsLeastOf (before : SurveyParts) (s : Written) (kind : RulesKind) : Type 0 where
  pub has : has_fault before s kind ≡ true
  pub least : (other : RulesKind) → has_fault before s other ≡ true → kind_number kind ≤ kind_number other
