use Rattle.std.specs.Prelude.{ℕ, ℤ, suc, ◌<◌, ◌==◌, ◌||◌, not, Bool, List, [], ◌∷◌, length, IsTrue, if◌then◌else◌, pos, ◌<ℤ◌, ◌+ℤ◌, ◌*ℤ◌, int_lt, int_le}
use Rattle.std.specs.Int.{bit_at}
use Rattle.std.specs.List.{list_any, AllByRecursion}
use Rattle.std.specs.Ordering.{int_eq}
use Rattle.edit_model.specs.Parts.{SurveyParts}
use Rattle.edit_model.specs.declared.field.Field.{Field}
use Rattle.edit_model.specs.declared.field.Kind.{Kind}
use Rattle.edit_model.specs.declared.field.Kind.TheVariants as kind
use Rattle.edit_model.specs.declared.rule.Compare.{Compare}
use Rattle.edit_model.specs.declared.rule.Compare.TheVariants.{Ge, Gt, Le, Lt, Eq}
use Rattle.edit_model.specs.declared.rule.Linear.{Linear}
use Rattle.edit_model.specs.declared.rule.Rule.{Rule}
use Rattle.edit_model.specs.declared.rule.Term.{Term}
use Rattle.edit_model.specs.declared.rule.Test.{Test}
use Rattle.edit_model.specs.declared.rule.Test.TheVariants.{Number, Codes}

-- an assignment to all fields, by their numbers: a code where a field is categorical and a numerator where it is
-- numerical, over one positive denominator for all
pub record Point : Type 0 where
  pub code : ℕ → ℕ
  pub numerator : ℕ → ℤ
  pub denominator : ℤ
  pub positive : pos 0 <ℤ denominator

-- the sum of factor * numerator
abbrev pub sum_of_terms : List Term → Point → ℤ
sum_of_terms [] p = pos 0
sum_of_terms (term ∷ terms) p = (term.factor *ℤ p.numerator term.field) +ℤ sum_of_terms terms p

-- the sum of a linear test at a point, with its constant, over the point's denominator
abbrev pub linear_sum : Linear → Point → ℤ
linear_sum linear p = sum_of_terms linear.terms p +ℤ (linear.constant *ℤ p.denominator)

-- how a number compares with 0
abbrev pub compares : Compare → ℤ → Bool
compares Ge z = int_le (pos 0) z
compares Gt z = int_lt (pos 0) z
compares Le z = int_le z (pos 0)
compares Lt z = int_lt z (pos 0)
compares Eq z = int_eq z (pos 0)

-- whether a set of codes, as bits, has a code
abbrev pub has_code : ℕ → ℕ → Bool
has_code set code = bit_at set code == 1

-- whether a test is true at a point
abbrev pub test_holds : Test → Point → Bool
test_holds (Number linear) p = compares linear.compare (linear_sum linear p)
test_holds (Codes field negated set) p = if negated then not (has_code set (p.code field)) else has_code set (p.code field)

-- IF all conditions are true THEN the conclusion is
abbrev pub rule_holds : Rule → Point → Bool
rule_holds rule p = list_any (λ test. not (test_holds test p)) rule.conditions || test_holds rule.conclusion p

-- the rule (edit) holds at the point
abbrev pub Holds : Rule → Point → Type 0
Holds rule p = IsTrue (rule_holds rule p)

-- a categorical field's code is one of its domain
abbrev pub IsInDomain : Kind → ℕ → Type 0
IsInDomain (kind.Number scale) code = Unit {0}
IsInDomain (kind.Code codes) code = code < length codes

-- the point has a code of its domain at each categorical field, from number i on
abbrev pub HasCodesFrom : ℕ → List Field → Point → Type 0
HasCodesFrom i [] p = Unit {0}
HasCodesFrom i (field ∷ fields) p = IsInDomain field.kind (p.code i) × HasCodesFrom (suc i) fields p

-- a consistent point: each code is of its field's domain, and every rule holds
pub record IsConsistent (survey : SurveyParts) (p : Point) : Type 0 where
  pub codes : HasCodesFrom 0 survey.fields p
  pub rules : AllByRecursion (λ rule. Holds rule p) survey.rules
