-- The statements of a well-formed survey have no fault, and each adds the field or rule that it was printed from.
use Rattle.std.proofs.Common.{◌≡◌, ◌≢◌, refl, sym, ap, subst, ℕ, ◌<◌, ◌≤◌, ◌^◌, Bool, true, false, List, [], ◌∷◌, ◌++◌, length, inl, inr, arith}
use Rattle.std.proofs.lemmas.Bool.{and_from, le-ltb, lt-leb, not_from_false, not_from_true, or_from, or_left, or_right}
use Rattle.std.proofs.lemmas.List.Elements.{recursion_from_All}
use Rattle.std.specs.Prelude.{All, AllPairs, None, map, nat_le, nat_lt, not, ◌||◌}
use Rattle.std.specs.List.{AllByRecursion, list_any}
use Rattle.std.specs.Str.{bytes_eq}
use Rattle.edit_model.specs.Parts.{SurveyParts}
use Rattle.edit_model.specs.Surveys.{HasForm, IsCodeTest, IsField, IsKind, IsOrderTest, IsRule, IsTest}
use Rattle.edit_model.specs.declared.field.Field.{Field}
use Rattle.edit_model.specs.declared.field.Kind.{Kind}
use Rattle.edit_model.specs.declared.field.Kind.TheVariants as kind
use Rattle.edit_model.specs.declared.rule.Compare.{Compare}
use Rattle.edit_model.specs.declared.rule.Compare.TheVariants.{Ge, Gt, Le, Lt, Eq}
use Rattle.edit_model.specs.declared.rule.Rule.{Rule}
use Rattle.edit_model.specs.declared.rule.Test.{Test}
use Rattle.edit_model.specs.declared.rule.Test.TheVariants as test
use Rattle.rule_grammar.specs.declared.statement.SumText.{SumText}
use Rattle.rule_grammar.specs.declared.statement.TestText.{TestText}
use Rattle.rule_grammar.specs.declared.statement.TestText.TheVariants as written
use Rattle.edit_language.specs.Faults.{has_double_code, has_rule_form, is_equation, is_known_test, is_large_test, is_sums}
use Rattle.edit_language.specs.inner.FirstFault.{tests_of}
use Rattle.edit_language.specs.inner.FirstFault.{declaration_fault, fault_of, first_true, has_known_codes}
use Rattle.edit_language.specs.Meaning.{extended, field_of, rule_of, test_of}
use Rattle.edit_language.specs.declared.fault.RulesKind.{RulesKind}
use Rattle.edit_language.specs.declared.fault.RulesKind.TheVariants.{ConditionForm, DoubleCode, DoubleField, NumberRange, TooMany, UnknownCode, UnknownField}
use Rattle.edit_language.proofs.PrintingCodes.{no_double}
use Rattle.edit_language.proofs.PrintingRules.{IsPrintableRule, IsPrintableTest}
use Rattle.edit_language.proofs.PrintingTests.{IsReadBack, all_mapped, all_true, apart_from_pairs, none_true, test_back}
use Rattle.edit_language.proofs.PrintingStatements.{declaration_of, statement_of_field, statement_of_rule, sum_of, written_rule, written_test, zero_sum}

-- where no test is true there is no fault
none_first : (tests : List (Bool × RulesKind)) → AllByRecursion (λ (t : Bool × RulesKind). t.0 ≡ false) tests → first_true tests ≡ None
none_first [] all = refl
none_first (t ∷ tests) all = rw all.0 (none_first tests all.1)

none_of_three : (a b c : Bool) (k l m : RulesKind) → a ≡ false → b ≡ false → c ≡ false → first_true ((a, k) ∷ (b, l) ∷ (c, m) ∷ []) ≡ None
none_of_three a b c k l m a_no b_no c_no = none_first ((a, k) ∷ (b, l) ∷ (c, m) ∷ []) (a_no, (b_no, (c_no, tt)))

none_of_more : (a b c : Bool) (k l m : RulesKind) (tests : List (Bool × RulesKind)) → a ≡ false → b ≡ false → c ≡ false → first_true tests ≡ None
    → first_true ((a, k) ∷ (b, l) ∷ (c, m) ∷ tests) ≡ None
none_of_more a b c k l m tests a_no b_no c_no rest = rw (a_no, b_no, c_no) rest

-- ---- declarations

-- no field has the name yet
abbrev pub IsNew : List Field → List ℕ → Type 0
IsNew done name = list_any (λ (f : Field). bytes_eq f.name name) done ≡ false

outside : (limit n : ℕ) → (1 ≤ n) × (n ≤ limit) → (nat_lt n 1 || nat_lt limit n) ≡ false
outside limit n is = or_from _ _ (le-ltb n 1 is.0) (le-ltb limit n is.1)

declared_faultless : (done : SurveyParts) (name : List ℕ) (weight : ℕ) (k : Kind) → (1 ≤ weight) × (weight ≤ 1000) → IsKind k → IsNew done.fields name
    → length done.fields < 64
    → declaration_fault done (declaration_of name weight k) ≡ None
declared_faultless done name weight (kind.Number scale) small fits new few =
    none_of_three _ _ _ DoubleField NumberRange TooMany new (or_from _ _ (outside 1000 weight small) (outside (10 ^ 12) scale fits))
    (lt-leb 64 (length done.fields) few)
declared_faultless done name weight (kind.Code []) small fits new few = absurd (omega (arith, fits.0))
declared_faultless done name weight (kind.Code (code ∷ list)) small fits new few =
    let last : (nat_le 64 (length done.fields) || nat_lt 64 (length (code ∷ list))) ≡ false =
    or_from _ _ (lt-leb 64 (length done.fields) few) (le-ltb 64 (length (code ∷ list)) fits.1) in
    none_of_more _ _ _ DoubleField DoubleCode NumberRange ((nat_le 64 (length done.fields) || nat_lt 64 (length (code ∷ list)), TooMany) ∷ []) new
    (no_double (code ∷ list) (apart_from_pairs (code ∷ list) fits.3)) (outside 1000 weight small) (rw last refl)

pub field_faultless : (done : SurveyParts) (f : Field) → IsField f → IsNew done.fields f.name → length done.fields < 64
    → fault_of done (statement_of_field f) ≡ None
field_faultless done f is new few = declared_faultless done f.name f.weight f.kind is.weight is.fits new few

declared_back : (name : List ℕ) (weight : ℕ) (k : Kind) → IsKind k → field_of (declaration_of name weight k) ≡ record { name = name; weight = weight; kind = k }
declared_back name weight (kind.Number scale) fits = refl
declared_back name weight (kind.Code []) fits = absurd (omega (arith, fits.0))
declared_back name weight (kind.Code (code ∷ list)) fits = refl

pub field_added : (done : SurveyParts) (f : Field) → IsField f
    → extended done (statement_of_field f) ≡ record { fields = done.fields ++ f ∷ []; rules = done.rules }
field_added done f is = ap (λ (g : Field). record { fields = done.fields ++ g ∷ []; rules = done.rules }) (declared_back f.name f.weight f.kind is.fits)

-- ---- rules

tests_all : (P : TestText → Type 0) (fields : List Field) (conditions : List Test) (conclusion : Test)
    → AllByRecursion (λ (t : Test). P (written_test fields t)) conditions → P (written_test fields conclusion)
    → AllByRecursion P (map (written_test fields) conditions ++ written_test fields conclusion ∷ [])
tests_all P fields [] conclusion all last = (last, tt)
tests_all P fields (t ∷ tests) conclusion all last = (all.0, tests_all P fields tests conclusion all.1 last)

same_tests : (fields : List Field) (tests : List Test) → AllByRecursion (IsReadBack fields) tests
    → map (test_of fields) (map (written_test fields) tests) ≡ tests
same_tests fields [] all = refl
same_tests fields (t ∷ tests) all = rw (all.0.same, same_tests fields tests all.1) refl

no_sums : (fields : List Field) (t : Test) → IsCodeTest t → is_sums (written_test fields t) ≡ false
no_sums fields (test.Number l) is = absurd is
no_sums fields (test.Codes i negated set) is = refl

no_sums_in : (fields : List Field) (tests : List Test) → AllByRecursion IsCodeTest tests → list_any is_sums (map (written_test fields) tests) ≡ false
no_sums_in fields [] all = refl
no_sums_in fields (t ∷ tests) all = or_from _ _ (no_sums fields t all.0) (no_sums_in fields tests all.1)

order_sums : (left right : SumText) (compare : Compare) → compare ≢ Eq → is_equation (written.Sums left compare right) ≡ false
order_sums left right Ge other = refl
order_sums left right Gt other = refl
order_sums left right Le other = refl
order_sums left right Lt other = refl
order_sums left right Eq other = absurd (other refl)

no_equation : (fields : List Field) (t : Test) → IsOrderTest t → is_equation (written_test fields t) ≡ false
no_equation fields (test.Number l) is = order_sums (sum_of fields l.terms l.constant) zero_sum l.compare is
no_equation fields (test.Codes i negated set) is = absurd is

abbrev form_of : List Field → List Test → Test → Bool
form_of fields conditions conclusion = has_rule_form (record { conditions = map (written_test fields) conditions; conclusion = written_test fields conclusion })

form_back : (fields : List Field) (r : Rule) → HasForm r → form_of fields r.conditions r.conclusion ≡ true
form_back fields r form =
    elim form [
      | inl all ↦ or_left _ _ (not_from_false _ (no_sums_in fields r.conditions (recursion_from_All IsCodeTest r.conditions all)))
      | inr one ↦
          let (t, is, order, code) = one in
          subst (λ (tests : List Test). form_of fields tests r.conclusion ≡ true) (sym is)
          (or_right _ _ (and_from _ _ refl (and_from _ _ (not_from_false _ (or_from _ _ (no_equation fields t order) refl))
          (not_from_false _ (no_sums fields r.conclusion code)))))
    ]

-- a rule that reads as it was
pub record IsRuleBack (done : SurveyParts) (r : Rule) : Type 0 where
  pub printable : IsPrintableRule done.fields r
  pub faultless : fault_of done (statement_of_rule done.fields r) ≡ None
  pub added : extended done (statement_of_rule done.fields r) ≡ record { fields = done.fields; rules = done.rules ++ r ∷ [] }

pub rule_back : (done : SurveyParts) (r : Rule) → All IsField done.fields → AllPairs (λ (f : Field) (g : Field). f.name ≢ g.name) done.fields
    → IsRule done.fields r → length done.rules < 500 → IsRuleBack done r
rule_back done r all distinct is few =
    let fields = done.fields in
    let conditions = all_mapped (IsTest fields) (IsReadBack fields) (test_back fields all distinct) r.conditions
    (recursion_from_All (IsTest fields) r.conditions is.conditions) in
    let conclusion = test_back fields all distinct r.conclusion is.conclusion in
    let every = λ (P : TestText → Type 0) (f : (t : Test) → IsReadBack fields t → P (written_test fields t)). tests_all P fields r.conditions r.conclusion
    (all_mapped (IsReadBack fields) (λ t. P (written_test fields t)) f r.conditions conditions) (f r.conclusion conclusion) in
    record {
      printable = record {
        conditions = all_mapped (IsReadBack fields) (IsPrintableTest fields) (λ t back. back.printable) r.conditions conditions;
        conclusion = conclusion.printable;
      };
      faultless = none_of_more _ _ _ UnknownField UnknownCode DoubleCode (
          (list_any (is_large_test fields) (tests_of (written_rule fields r)), NumberRange)
          ∷ (nat_le 500 (length done.rules), TooMany)
          ∷ (not (has_rule_form (written_rule fields r)), ConditionForm) ∷ [])
          (not_from_true _ (all_true _ _ (every (λ t. is_known_test fields t ≡ true) (λ t back. back.known))))
          (not_from_true _ (all_true _ _ (every (λ t. has_known_codes fields t ≡ true) (λ t back. back.known_codes))))
          (none_true _ _ (every (λ t. has_double_code t ≡ false) (λ t back. back.distinct)))
          (none_of_three _ _ _ NumberRange TooMany ConditionForm
          (none_true _ _ (every (λ t. is_large_test fields t ≡ false) (λ t back. back.small)))
          (lt-leb 500 (length done.rules) few)
          (not_from_true _ (form_back fields r is.form)));
      added = ap (λ (q : Rule). record { fields = fields; rules = done.rules ++ q ∷ [] }) (rule_same conditions conclusion.same);
    }
  where
    rule_same : AllByRecursion (IsReadBack done.fields) r.conditions → test_of done.fields (written_test done.fields r.conclusion) ≡ r.conclusion
        → rule_of done.fields (written_rule done.fields r) ≡ r
    rule_same all last = rw (same_tests done.fields r.conditions all, last) refl
