-- The kind that the reader finds for a statement is the least that the statement has, and where it finds none there is none.
use Rattle.std.proofs.Common.{◌≡◌, ◌⊎◌, ℕ, ◌≤◌, ◌&&◌, ◌||◌, not, Bool, true, false, List, [], ◌∷◌, Option, Some, None, refl, sym, ap, ◌∙◌, inl, inr, arith}
use Rattle.std.specs.List.{find, list_all, list_any}
use Rattle.std.proofs.lemmas.Bool.{and_parts, cases_Bool, cond-false, cond-true}
use Rattle.edit_model.specs.Parts.{SurveyParts}
use Rattle.edit_model.specs.declared.field.Field.{Field}
use Rattle.rule_grammar.specs.declared.statement.Declaration.TheVariants as declaration
use Rattle.rule_grammar.specs.declared.statement.RuleText.{RuleText}
use Rattle.rule_grammar.specs.declared.statement.Statement.{Statement as Written}
use Rattle.rule_grammar.specs.declared.statement.Statement.TheVariants as statement
use Rattle.rule_grammar.specs.declared.statement.TestText.{TestText}
use Rattle.rule_grammar.specs.declared.statement.TestText.TheVariants as written
use Rattle.edit_language.specs.Faults.{has_fault, has_unknown_code, is_known_test, kind_number}
use Rattle.edit_language.specs.inner.FirstFault.{tests_of}
use Rattle.edit_language.specs.declared.fault.RulesKind.{RulesKind}
use Rattle.edit_language.specs.declared.fault.RulesKind.TheVariants.{BadByte, Syntax, UnknownField, DoubleField, UnknownCode, DoubleCode, NumberRange, TooMany}
use Rattle.edit_language.specs.declared.fault.RulesKind.TheVariants.{ConditionForm}
use Rattle.edit_language.specs.inner.FirstFault.{IsLeastOf, fault_of, has_known_codes}

-- ---- the first of kinds in order

-- the kind is one of these
IsOneOf : RulesKind → List RulesKind → Type 0
IsOneOf kind [] = ⊥
IsOneOf kind (k ∷ kinds) = (kind ≡ k) ⊎ IsOneOf kind kinds

-- the kinds' numbers rise from n on
RiseFrom : ℕ → List RulesKind → Type 0
RiseFrom n [] = Unit {0}
RiseFrom n (k ∷ kinds) = (n ≤ kind_number k) × RiseFrom (kind_number k) kinds

above : (n : ℕ) (kinds : List RulesKind) (other : RulesKind) → RiseFrom n kinds → IsOneOf other kinds → n ≤ kind_number other
unfolding IsOneOf RiseFrom
above n [] other rise one = absurd one
above n (k ∷ kinds) other rise (inl here) = let same : kind_number other ≡ kind_number k = ap kind_number here in let first = rise.0 in omega arith
above n (k ∷ kinds) other rise (inr later) = let rest = above (kind_number k) kinds other rise.1 later in let first = rise.0 in omega arith

module _ (p : RulesKind → Bool) where
  -- a kind that passes is the first that does
  here_first : (k kind : RulesKind) (kinds : List RulesKind) → p k ≡ true → find p (k ∷ kinds) ≡ Some kind → k ≡ kind
  here_first k kind kinds passes e = let found : Some k ≡ Some kind = sym (cond-true (p k) (Some k) (find p kinds) passes) ∙ e in cc

  -- behind one that does not pass, the first of the others is
  later_first : (k : RulesKind) (kinds : List RulesKind) (first : Option RulesKind) → p k ≡ false → find p (k ∷ kinds) ≡ first → find p kinds ≡ first
  later_first k kinds first fails e = sym (cond-false (p k) (Some k) (find p kinds) fails) ∙ e

  found_passes : (kinds : List RulesKind) (kind : RulesKind) → find p kinds ≡ Some kind → p kind ≡ true
  found_passes [] kind e = absurd cc
  found_passes (k ∷ kinds) kind e = elim (cases_Bool (p k)) [
    | inl passes ↦ ap p (sym (here_first k kind kinds passes e)) ∙ passes
    | inr fails ↦ found_passes kinds kind (later_first k kinds (Some kind) fails e)
  ]

  found_least : (n : ℕ) (kinds : List RulesKind) (kind : RulesKind) → RiseFrom n kinds → find p kinds ≡ Some kind → (other : RulesKind) → IsOneOf other kinds
      → p other ≡ true → kind_number kind ≤ kind_number other
  unfolding IsOneOf RiseFrom
  found_least n [] kind rise e other one passes = absurd one
  found_least n (k ∷ kinds) kind rise e other (inl here) passes =
      let number : kind_number other ≡ kind_number kind = ap kind_number (here ∙ here_first k kind kinds (ap p (sym here) ∙ passes) e) in omega arith
  found_least n (k ∷ kinds) kind rise e other (inr later) passes = elim (cases_Bool (p k)) [
    | inl first ↦
        let number : kind_number k ≡ kind_number kind = ap kind_number (here_first k kind kinds first e) in
        let below = above (kind_number k) kinds other rise.1 later in omega arith
    | inr fails ↦ found_least (kind_number k) kinds kind rise.1 (later_first k kinds (Some kind) fails e) other later passes
  ]

  none_passes : (kinds : List RulesKind) → find p kinds ≡ None → (other : RulesKind) → IsOneOf other kinds → p other ≡ true → ⊥
  unfolding IsOneOf
  none_passes [] e other one passes = one
  none_passes (k ∷ kinds) e other (inl here) passes =
      let found : Some k ≡ None = sym (cond-true (p k) (Some k) (find p kinds) (ap p (sym here) ∙ passes)) ∙ e in cc
  none_passes (k ∷ kinds) e other (inr later) passes = elim (cases_Bool (p k)) [
    | inl first ↦ let found : Some k ≡ None = sym (cond-true (p k) (Some k) (find p kinds) first) ∙ e in absurd cc
    | inr fails ↦ none_passes kinds (later_first k kinds None fails e) other later passes
  ]

-- ---- the kinds of statements

abbrev kinds : List RulesKind
kinds = UnknownField ∷ DoubleField ∷ UnknownCode ∷ DoubleCode ∷ NumberRange ∷ TooMany ∷ ConditionForm ∷ []

kinds_rise : RiseFrom 0 kinds
unfolding RiseFrom
kinds_rise = (omega arith, (omega arith, (omega arith, (omega arith, (omega arith, (omega arith, (omega arith, tt)))))))

in_kinds : (before : SurveyParts) (s : Written) (kind : RulesKind) → has_fault before s kind ≡ true → IsOneOf kind kinds
unfolding IsOneOf
in_kinds before s BadByte e = absurd cc
in_kinds before s Syntax e = absurd cc
in_kinds before s UnknownField e = inl refl
in_kinds before s DoubleField e = inr (inl refl)
in_kinds before s UnknownCode e = inr (inr (inl refl))
in_kinds before s DoubleCode e = inr (inr (inr (inl refl)))
in_kinds before s NumberRange e = inr (inr (inr (inr (inl refl))))
in_kinds before s TooMany e = inr (inr (inr (inr (inr (inl refl)))))
in_kinds before s ConditionForm e = inr (inr (inr (inr (inr (inr (inl refl))))))

-- ---- what the reader finds

not_both : (a b : Bool) → (not a || not b) ≡ not (a && b)
not_both true b = refl
not_both false b = refl

-- a test of a known field has an unknown code where not all of its codes are known
unknown_code : (fields : List Field) (t : TestText) → is_known_test fields t ≡ true → has_unknown_code fields t ≡ not (has_known_codes fields t)
unknown_code fields (written.Codes field negated list) known = rw known refl
unknown_code fields (written.Sums left compare right) known = refl

unknown_codes : (fields : List Field) (ts : List TestText) → list_all (is_known_test fields) ts ≡ true
    → list_any (has_unknown_code fields) ts ≡ not (list_all (has_known_codes fields) ts)
unknown_codes fields [] known = refl
unknown_codes fields (t ∷ ts) known =
    let both = and_parts _ _ known in
    rw (unknown_code fields t both.0, unknown_codes fields ts both.1) (not_both (has_known_codes fields t) (list_all (has_known_codes fields) ts))

rule_finds : (before : SurveyParts) (r : RuleText) → (list_all (is_known_test before.fields) (tests_of r) ≡ true)
    ⊎ (list_all (is_known_test before.fields) (tests_of r) ≡ false) → fault_of before (statement.Rule r) ≡ find (has_fault before (statement.Rule r)) kinds
rule_finds before r (inl known) = rw (known, unknown_codes before.fields (tests_of r) known) refl
rule_finds before r (inr unknown) = rw unknown refl

finds : (before : SurveyParts) (s : Written) → fault_of before s ≡ find (has_fault before s) kinds
finds before (statement.Declaration (declaration.Number name weight scale)) = refl
finds before (statement.Declaration (declaration.Code name weight list)) = refl
finds before (statement.Rule r) = rule_finds before r (cases_Bool (list_all (is_known_test before.fields) (tests_of r)))

-- what is found is the least kind
pub found_is_least : (before : SurveyParts) (s : Written) (kind : RulesKind) → fault_of before s ≡ Some kind → IsLeastOf before s kind
found_is_least before s kind e =
    let found = sym (finds before s) ∙ e in
    record {
      has = found_passes (has_fault before s) kinds kind found;
      least = λ other passes. found_least (has_fault before s) 0 kinds kind kinds_rise found other (in_kinds before s other passes) passes;
    }

-- where none is found there is none
pub none_found : (before : SurveyParts) (s : Written) → fault_of before s ≡ None → (kind : RulesKind) → has_fault before s kind ≡ false
none_found before s e kind = elim (cases_Bool (has_fault before s kind)) [
  | inl has ↦ absurd (none_passes (has_fault before s) kinds (sym (finds before s) ∙ e) kind (in_kinds before s kind has) has)
  | inr has_none ↦ has_none
]
