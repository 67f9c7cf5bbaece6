-- A well-formed survey stays one with a statement that has no fault.
use Rattle.std.proofs.Common.{◌≡◌, ◌≢◌, ◌⊎◌, ℕ, zero, suc, ◌^◌, ◌<◌, ◌≤◌, ◌||◌, ◌&&◌, ◌==◌, not, Bool, true, false, if◌then◌else◌, All, List, [], ◌∷◌, ◌++◌}
use Rattle.std.proofs.Common.{length, map, Option, Some, None, IsSomeAnd, slice_get, nat_le, refl, sym, ◌∙◌, inl, inr, arith, length-append}
use Rattle.std.specs.List.{list_all, list_any}
use Rattle.std.specs.Str.{bytes_eq}
use Rattle.std.proofs.lemmas.Bool.{and_parts, both_ways, cases_Bool, eqb-true, leb-false, ltb-false, not-false, not-true, or_cases, or_parts}
use Rattle.std.proofs.lemmas.List.Elements.{All-cons, All-nil, All-push, All-weaker}
use Rattle.std.proofs.lemmas.List.Folds.{list_all-append, list_any-append}
use Rattle.std.proofs.lemmas.List.Quantifiers.{all_pairs_push}
use Rattle.std.proofs.lemmas.Slice.Eq.{bytes_eq-Decides}
use Rattle.edit_model.specs.Parts.{SurveyParts}
use Rattle.edit_model.specs.Surveys.{HasForm, IsCodeTest, IsField, IsNumber, IsOrderTest, IsRule, IsTerm, IsTest, IsWellFormed}
use Rattle.edit_model.specs.declared.field.Field.{Field}
use Rattle.edit_model.specs.declared.rule.Compare.TheVariants.{Ge, Gt, Le, Lt, Eq}
use Rattle.edit_model.specs.declared.rule.Rule.{Rule}
use Rattle.edit_model.specs.declared.rule.Test.{Test}
use Rattle.edit_model.specs.declared.rule.Test.TheVariants as made
use Rattle.rule_grammar.specs.Names.{GivesNames}
use Rattle.rule_grammar.specs.declared.statement.Declaration.TheVariants as declaration
use Rattle.rule_grammar.specs.declared.statement.RuleText.{RuleText}
use Rattle.rule_grammar.specs.declared.statement.Statement.{Statement as Written}
use Rattle.rule_grammar.specs.declared.statement.Statement.TheVariants as statement
use Rattle.rule_grammar.specs.declared.statement.TestText.{TestText}
use Rattle.rule_grammar.specs.declared.statement.TestText.TheVariants as written
use Rattle.rule_grammar.specs.declared.token.Numeral.{Numeral}
use Rattle.rule_grammar.specs.declared.token.Numeral.TheVariants as numeral
use Rattle.edit_language.specs.Faults.{has_rule_form, is_equation, is_known_test, is_large_test, is_outside, is_sums}
use Rattle.edit_language.specs.inner.FirstFault.{tests_of}
use Rattle.edit_language.specs.inner.FirstFault.{fault_of, has_known_codes}
use Rattle.edit_language.specs.Meaning.{extended, field_of, listed, number_or_one, rule_of, test_of}
use Rattle.edit_language.specs.declared.fault.RulesKind.{RulesKind}
use Rattle.edit_language.proofs.CodeLaws.{distinct_codes}
use Rattle.edit_language.proofs.TestLaws.{HaveDistinctNames, test_fits}

-- ---- faults that are not there

-- where there is no fault, the first test fails, and the later ones
not_this : (kind : RulesKind) (b : Bool) (later : Option RulesKind) → (if b then Some kind else later) ≡ None → (b ≡ false) × (later ≡ None)
not_this kind true later e = absurd cc
not_this kind false later e = (refl, e)

-- a number that is not outside its limits
within_limit : (limit : ℕ) (number : Option Numeral) → 1 ≤ limit → is_outside limit number ≡ false → (1 ≤ number_or_one number) × (number_or_one number ≤ limit)
within_limit limit None some inside = (omega arith, some)
within_limit limit (Some (numeral.Whole n)) some inside = let both = or_parts _ _ inside in (ltb-false n 1 both.0, ltb-false limit n both.1)
within_limit limit (Some numeral.OutOfRange) some inside = absurd cc

-- a name that no field has
new_name : (fields : List Field) (name : List ℕ) → list_any (λ (f : Field). bytes_eq f.name name) fields ≡ false → All (λ (f : Field). f.name ≢ name) fields
new_name [] name none = All-nil (λ (f : Field). f.name ≢ name)
new_name (f ∷ fields) name none =
    let both = or_parts _ _ none in
    All-cons (λ (f : Field). f.name ≢ name) f fields (λ same. both_ways _ both.0 ((bytes_eq-Decides f.name name).1 same)) (new_name fields name both.1)

-- ---- a field more

some_grows : (P : Field → Type 0) (fields more : List Field) (number : ℕ) → IsSomeAnd (slice_get fields number) P
    → IsSomeAnd (slice_get (fields ++ more) number) P
some_grows P [] more number h = absurd h
some_grows P (f ∷ fields) more zero h = h
some_grows P (f ∷ fields) more (suc number) h = some_grows P fields more number h

test_grows : (fields more : List Field) (test : Test) → IsTest fields test → IsTest (fields ++ more) test
test_grows fields more (made.Number l) h = (
  h.0,
  All-weaker (IsTerm fields) (IsTerm (fields ++ more))
      (λ t fits. record { numerical = some_grows (λ f. IsNumber f.kind) fields more t.field fits.numerical; factor = fits.factor }) l.terms h.1,
  h.2,
)
test_grows fields more (made.Codes field negated set) h = some_grows _ fields more field h

rule_grows : (fields more : List Field) (rule : Rule) → IsRule fields rule → IsRule (fields ++ more) rule
rule_grows fields more rule h = record {
  conditions =
      All-weaker (IsTest fields) (IsTest (fields ++ more)) (test_grows fields more) rule.conditions h.conditions;
  conclusion = test_grows fields more rule.conclusion h.conclusion;
  form = h.form;
}

field_kept : (survey : SurveyParts) (field : Field) → IsWellFormed survey → IsField field
    → list_any (λ (f : Field). bytes_eq f.name field.name) survey.fields ≡ false → nat_le 64 (length survey.fields) ≡ false
    → IsWellFormed (record { fields = survey.fields ++ field ∷ []; rules = survey.rules })
field_kept survey field formed is_field new few =
    let below : length survey.fields < 64 = leb-false _ _ few in
    record {
      few_fields = simp length-append (omega arith);
      few_rules = formed.few_rules;
      names = all_pairs_push (λ (f : Field) (g : Field). f.name ≢ g.name) survey.fields field formed.names (new_name survey.fields field.name new);
      fields = All-push IsField survey.fields field formed.fields is_field;
      rules = All-weaker (IsRule survey.fields) (IsRule (survey.fields ++ field ∷ [])) (rule_grows survey.fields (field ∷ [])) survey.rules formed.rules;
    }

-- ---- a rule more

code_test : (fields : List Field) (t : TestText) → is_sums t ≡ false → IsCodeTest (test_of fields t)
code_test fields (written.Codes field negated list) none = tt
code_test fields (written.Sums left compare right) none = absurd cc

code_tests : (fields : List Field) (ts : List TestText) → list_any is_sums ts ≡ false → All IsCodeTest (map (test_of fields) ts)
code_tests fields [] none = All-nil IsCodeTest
code_tests fields (t ∷ ts) none = let both = or_parts _ _ none in All-cons IsCodeTest _ _ (code_test fields t both.0) (code_tests fields ts both.1)

order_test : (fields : List Field) (t : TestText) → is_sums t ≡ true → is_equation t ≡ false → IsOrderTest (test_of fields t)
order_test fields (written.Codes field negated list) sums none = absurd cc
order_test fields (written.Sums left Ge right) sums none = λ same. cc
order_test fields (written.Sums left Gt right) sums none = λ same. cc
order_test fields (written.Sums left Le right) sums none = λ same. cc
order_test fields (written.Sums left Lt right) sums none = λ same. cc
order_test fields (written.Sums left Eq right) sums none = absurd cc

form_of : (fields : List Field) (conditions : List TestText) (conclusion : TestText)
    → (list_any is_sums conditions ≡ true) ⊎ (list_any is_sums conditions ≡ false)
    → (not (list_any is_sums conditions) || ((length conditions == 1) && (not (list_any is_equation conditions) && not (is_sums conclusion)))) ≡ true
    → HasForm (record { conditions = map (test_of fields) conditions; conclusion = test_of fields conclusion })
form_of fields conditions conclusion (inr none) form = inl (code_tests fields conditions none)
form_of fields [] conclusion (inl some) form = inl (All-nil IsCodeTest)
form_of fields (t ∷ []) conclusion (inl some) form =
    let all : (not (is_equation t || false) && not (is_sums conclusion)) ≡ true = rw some at form in
    let ordered = and_parts (not (is_equation t || false)) (not (is_sums conclusion)) all in
    let sums : is_sums t ≡ true = elim (or_cases (is_sums t) false some) [ inl e ↦ e | inr e ↦ absurd cc ] in
    let equation : is_equation t ≡ false = (or_parts (is_equation t) false (not-true (is_equation t || false) ordered.0)).0 in
    inr (test_of fields t, refl, order_test fields t sums equation, code_test fields conclusion (not-true (is_sums conclusion) ordered.1))
form_of fields (t ∷ u ∷ ts) conclusion (inl some) form =
    let all : ((length (t ∷ u ∷ ts) == 1) && (not (list_any is_equation (t ∷ u ∷ ts)) && not (is_sums conclusion))) ≡ true = rw some at form in
    let one : length (t ∷ u ∷ ts) ≡ 1 = eqb-true (length (t ∷ u ∷ ts)) 1
    (and_parts (length (t ∷ u ∷ ts) == 1) (not (list_any is_equation (t ∷ u ∷ ts)) && not (is_sums conclusion)) all).0 in
    absurd (omega arith)

-- the last of a list, and those before it
all_of_list : {X : Type 0} (p : X → Bool) (xs : List X) (y : X) → list_all p (xs ++ y ∷ []) ≡ true → (list_all p xs ≡ true) × (p y ≡ true)
all_of_list p xs y all =
    let both = and_parts _ _ (sym (list_all-append p xs (y ∷ [])) ∙ all) in
    (both.0, (and_parts _ _ both.1).0)

none_of_list : {X : Type 0} (p : X → Bool) (xs : List X) (y : X) → list_any p (xs ++ y ∷ []) ≡ false → (list_any p xs ≡ false) × (p y ≡ false)
none_of_list p xs y none =
    let both = or_parts _ _ (sym (list_any-append p xs (y ∷ [])) ∙ none) in
    (both.0, (or_parts _ _ both.1).0)

tests_fit : (fields : List Field) → HaveDistinctNames fields → (ts : List TestText) → list_all (is_known_test fields) ts ≡ true
    → list_all (has_known_codes fields) ts ≡ true → list_any (is_large_test fields) ts ≡ false → All (IsTest fields) (map (test_of fields) ts)
tests_fit fields distinct [] known codes small = All-nil (IsTest fields)
tests_fit fields distinct (t ∷ ts) known codes small =
    let k = and_parts _ _ known in
    let c = and_parts _ _ codes in
    let s = or_parts _ _ small in
    All-cons (IsTest fields) _ _ (test_fits fields distinct t k.0 c.0 s.0) (tests_fit fields distinct ts k.1 c.1 s.1)

rule_kept : (survey : SurveyParts) (r : RuleText) → IsWellFormed survey → list_all (is_known_test survey.fields) (tests_of r) ≡ true
    → list_all (has_known_codes survey.fields) (tests_of r) ≡ true → list_any (is_large_test survey.fields) (tests_of r) ≡ false
    → nat_le 500 (length survey.rules) ≡ false → has_rule_form r ≡ true
    → IsWellFormed (record { fields = survey.fields; rules = survey.rules ++ rule_of survey.fields r ∷ [] })
rule_kept survey r formed known codes small few form =
    let below : length survey.rules < 500 = leb-false _ _ few in
    let k = all_of_list (is_known_test survey.fields) r.conditions r.conclusion known in
    let c = all_of_list (has_known_codes survey.fields) r.conditions r.conclusion codes in
    let s = none_of_list (is_large_test survey.fields) r.conditions r.conclusion small in
    record {
      few_fields = formed.few_fields;
      few_rules = simp length-append (omega arith);
      names = formed.names;
      fields = formed.fields;
      rules = All-push (IsRule survey.fields) survey.rules (rule_of survey.fields r) formed.rules (record {
        conditions = tests_fit survey.fields formed.names r.conditions k.0 c.0 s.0;
        conclusion = test_fits survey.fields formed.names r.conclusion k.1 c.1 s.1;
        form = form_of survey.fields r.conditions r.conclusion (cases_Bool (list_any is_sums r.conditions)) form;
      });
    }

-- ---- a statement more

-- the survey of the lines before, with a statement that has no fault
pub extended_well_formed : (before : SurveyParts) (s : Written) → IsWellFormed before → GivesNames s → fault_of before s ≡ None
    → IsWellFormed (extended before s)
extended_well_formed before (statement.Declaration (declaration.Number name weight scale)) formed names faultless =
    let new = not_this _ _ _ faultless in
    let range = not_this _ _ _ new.1 in
    let few = not_this _ _ _ range.1 in
    let limits = or_parts _ _ range.0 in
    field_kept before (field_of (declaration.Number name weight scale)) formed
    (record {
      name = names;
      weight = within_limit 1000 weight (omega arith) limits.0;
      fits = within_limit (10 ^ 12) scale (omega arith) limits.1;
    }) new.0 few.0
extended_well_formed before (statement.Declaration (declaration.Code name weight list)) formed names faultless =
    let new = not_this _ _ _ faultless in
    let double = not_this _ _ _ new.1 in
    let range = not_this _ _ _ double.1 in
    let few = not_this _ _ _ range.1 in
    let limits = or_parts _ _ few.0 in
    let some : 1 ≤ length (listed list) = omega arith in
    field_kept before (field_of (declaration.Code name weight list)) formed
    (record {
      name = names.0;
      weight = within_limit 1000 weight (omega arith) range.0;
      fits = (some, ltb-false _ _ limits.1, names.1, distinct_codes (listed list) double.0);
    }) new.0 limits.0
extended_well_formed before (statement.Rule r) formed names faultless =
    let known = not_this _ _ _ faultless in
    let codes = not_this _ _ _ known.1 in
    let double = not_this _ _ _ codes.1 in
    let small = not_this _ _ _ double.1 in
    let few = not_this _ _ _ small.1 in
    let form = not_this _ _ _ few.1 in
    rule_kept before r formed (not-false _ known.0) (not-false _ codes.0) small.0 few.0 (not-false _ form.0)
