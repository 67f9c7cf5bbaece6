-- The statements that a survey's fields and rules are written as.
use Rattle.std.specs.Prelude.{ℕ, ℤ, ◌==◌, Bool, false, Option, Some, None, List, [], ◌∷◌, map, pos, int_lt, unsigned_abs, slice_get, if◌then◌else◌}
use Rattle.std.specs.Ordering.{int_eq}
use Rattle.edit_model.specs.declared.field.Field.{Field}
use Rattle.edit_model.specs.declared.field.Kind.{Kind}
use Rattle.edit_model.specs.declared.field.Kind.TheVariants as kind
use Rattle.edit_model.specs.declared.rule.Rule.{Rule}
use Rattle.edit_model.specs.declared.rule.Term.{Term}
use Rattle.edit_model.specs.declared.rule.Test.{Test}
use Rattle.edit_model.specs.declared.rule.Test.TheVariants as test
use Rattle.rule_grammar.specs.declared.statement.CodeList.{CodeList}
use Rattle.rule_grammar.specs.declared.statement.Declaration.{Declaration as Declared}
use Rattle.rule_grammar.specs.declared.statement.Declaration.TheVariants as declaration
use Rattle.rule_grammar.specs.declared.statement.RuleText.{RuleText}
use Rattle.rule_grammar.specs.declared.statement.SignedTerm.{SignedTerm}
use Rattle.rule_grammar.specs.declared.statement.Statement.{Statement as Written}
use Rattle.rule_grammar.specs.declared.statement.Statement.TheVariants as statement
use Rattle.rule_grammar.specs.declared.statement.SumText.{SumText}
use Rattle.rule_grammar.specs.declared.statement.TermText.{TermText}
use Rattle.rule_grammar.specs.declared.statement.TermText.TheVariants as term
use Rattle.rule_grammar.specs.declared.statement.TestText.{TestText}
use Rattle.rule_grammar.specs.declared.statement.TestText.TheVariants as written
use Rattle.rule_grammar.specs.declared.token.Numeral.TheVariants as numeral
use Rattle.rule_grammar.specs.declared.token.Sign.{Sign}
use Rattle.rule_grammar.specs.declared.token.Sign.TheVariants as sign
use Rattle.edit_language.specs.Meaning.{field_codes}
use Rattle.edit_language.specs.Printing.{codes_of_set, name_at}

-- the list of these codes; there is one at least
abbrev pub code_list : List (List ℕ) → CodeList
code_list [] = record { first = []; rest = [] }
code_list (code ∷ list) = record { first = code; rest = list }

abbrev pub declaration_of : List ℕ → ℕ → Kind → Declared
declaration_of name weight (kind.Number scale) = declaration.Number name (Some (numeral.Whole weight)) (Some (numeral.Whole scale))
declaration_of name weight (kind.Code list) = declaration.Code name (Some (numeral.Whole weight)) (code_list list)

abbrev pub statement_of_field : Field → Written
statement_of_field f = statement.Declaration (declaration_of f.name f.weight f.kind)

-- ---- sums

abbrev pub is_negative : ℤ → Bool
is_negative z = int_lt z (pos 0)

abbrev pub sign_of : Bool → Sign
sign_of negative = if negative then sign.Minus else sign.Plus

abbrev pub front_sign : Bool → Option Sign
front_sign negative = if negative then Some sign.Minus else None

-- a factor and its field's name; the factor 1 is not written
abbrev pub product_of : Bool → ℕ → List ℕ → TermText
product_of is_one factor name = if is_one then term.Field name else term.Product (numeral.Whole factor) false name

abbrev pub term_of : List Field → Term → TermText
term_of fields t = product_of (unsigned_abs t.factor == 1) (unsigned_abs t.factor) (name_at fields t.field)

abbrev pub signed_term : List Field → Term → SignedTerm
signed_term fields t = record { sign = sign_of (is_negative t.factor); term = term_of fields t }

abbrev pub constant_if : Bool → ℤ → List SignedTerm
constant_if is_zero c = if is_zero then [] else record { sign = sign_of (is_negative c); term = term.Constant (numeral.Whole (unsigned_abs c)) } ∷ []

-- the terms behind the first, and the constant where it is not 0
abbrev pub later_terms : List Field → List Term → ℤ → List SignedTerm
later_terms fields [] c = constant_if (int_eq c (pos 0)) c
later_terms fields (t ∷ ts) c = signed_term fields t ∷ later_terms fields ts c

abbrev pub sum_of : List Field → List Term → ℤ → SumText
sum_of fields [] c = record { sign = front_sign (is_negative c); first = term.Constant (numeral.Whole (unsigned_abs c)); rest = [] }
sum_of fields (t ∷ ts) c = record { sign = front_sign (is_negative t.factor); first = term_of fields t; rest = later_terms fields ts c }

abbrev pub zero_sum : SumText
zero_sum = record { sign = None; first = term.Constant (numeral.Whole 0); rest = [] }

-- ---- tests and rules

abbrev pub written_test : List Field → Test → TestText
written_test fields (test.Number l) = written.Sums (sum_of fields l.terms l.constant) l.compare zero_sum
written_test fields (test.Codes field negated set) =
    written.Codes (name_at fields field) negated (code_list (codes_of_set set 0 (field_codes (slice_get fields field))))

abbrev pub written_rule : List Field → Rule → RuleText
written_rule fields r = record { conditions = map (written_test fields) r.conditions; conclusion = written_test fields r.conclusion }

abbrev pub statement_of_rule : List Field → Rule → Written
statement_of_rule fields r = statement.Rule (written_rule fields r)
