use Rattle.std.proofs.Common.{◌≡◌, ◌≢◌, ℕ, zero, suc, ◌+◌, ◌<◌, ◌*ℤ◌, ℤ, not, Bool, true, false, List, [], ◌∷◌, Some, All, length, refl, sym, ap, ◌∙◌, subst}
use Rattle.std.proofs.Common.{arith}
use Rattle.std.specs.List.{AllByRecursion, sum_by}
use Rattle.std.specs.Str.{bytes_eq}
use Rattle.std.proofs.lemmas.Bool.Decides.{Decides-eqb, Decides-int_eq}
use Rattle.std.proofs.lemmas.List.Elements.{All-append}
use Rattle.std.proofs.lemmas.List.Quantifiers.{position-Some}
use Rattle.edit_model.proofs.ChangedWords.{changed_in}
use Rattle.fraction128.proofs.CommonDenominator.{IsOver-unique}
use Rattle.edit_model.specs.CleanRecords.{is_clean}
use Rattle.edit_model.specs.Corrections.{IsCorrection, change_weight, code_fields, differs_from, is_numerical, number_fields, path_order}
use Rattle.edit_model.specs.Parts.{SurveyParts}
use Rattle.edit_model.specs.Points.{Holds, Point}
use Rattle.edit_model.specs.Rows.{IsOfKind, IsRow, value_of}
use Rattle.edit_model.specs.Surveys.{IsRule, IsWellFormed}
use Rattle.edit_model.specs.Trials.{rule_at}
use Rattle.edit_model.specs.Words.{weight_at}
use Rattle.edit_model.specs.declared.field.Field.{Field}
use Rattle.edit_model.specs.declared.field.Kind.{Kind}
use Rattle.edit_model.specs.declared.field.Kind.TheVariants as kind
use Rattle.edit_model.specs.declared.rule.Rule.{Rule}
use Rattle.edit_model.specs.declared.value.Value.{Value}
use Rattle.edit_model.specs.declared.value.Value.TheVariants.{Bad, Code, Number}
use Rattle.edit_model.proofs.CleanLaws.{clean-held, clean-holds}
use Rattle.edit_model.proofs.OrderLaws.{numbers-below}
use Rattle.edit_model.proofs.RowPointLaws.{point_of, point_of-agrees, point_of-codes}
use Rattle.edit_model.proofs.TrialCallers.{can_try, point_of-agrees_with}
use Rattle.edit_model.proofs.TrialLaws.{number_agrees, rule_at-holds}
use Rattle.edit_model.proofs.WordLaws.{changed-weigh}
use Rattle.edit_line.proofs.Members.{in-all}
use Rattle.bound_cert.specs.Paths.{changes, path_weight}
use Rattle.bound_cert.proofs.Letters.{filter-agree}
use Rattle.bound_cert.proofs.PathLaws.{weight-of_word}
use Rattle.cert_check.specs.Released.{AreValuesFrom, IsGivenText, IsValueOf, is_same}
use Rattle.cert_check.specs.Shown.{IsPointOf}

-- What the values of a released row are beside those that were read.

-- ---- they are a record of the survey

-- a value that was given is of the field's kind
given-kind : (k : Kind) (text : List ℕ) (v : Value) → IsGivenText k text v → IsOfKind k v
given-kind (kind.Number scale) text (Number x) is = tt
given-kind (kind.Number scale) text (Code c) is = absurd is
given-kind (kind.Number scale) text Bad is = absurd is
given-kind (kind.Code codes) text (Code c) is = (position-Some (λ code. bytes_eq code text) codes c [] is).0
given-kind (kind.Code codes) text (Number x) is = absurd is
given-kind (kind.Code codes) text Bad is = absurd is

-- and so is one that is kept
value-kind : (changed : Bool) (k : Kind) (text : List ℕ) (read v : Value) → IsOfKind k read → IsValueOf changed k text read v → IsOfKind k v
value-kind false k text read v fits is = subst (λ (w : Value). IsOfKind k w) (sym is) fits
value-kind true k text read v fits is = given-kind k text v is.0

module _ (changed : ℕ → Bool) (text : ℕ → List ℕ) where
  pub values-row : (i : ℕ) (fields : List Field) (row new : List Value) → IsRow fields row → AreValuesFrom changed text i fields row new → IsRow fields new
  values-row i [] [] [] are values = tt
  values-row i [] [] (v ∷ new) are values = absurd values
  values-row i [] (read ∷ row) new are values = absurd are
  values-row i (field ∷ fields) [] new are values = absurd are
  values-row i (field ∷ fields) (read ∷ row) [] are values = absurd values
  values-row i (field ∷ fields) (read ∷ row) (v ∷ new) are values = (
    value-kind (changed i) field.kind (text i) read v are.0 values.0,
    values-row (suc i) fields row new are.1 values.1,
  )

-- ---- a point that has them differs from the record at the changed fields

-- a point that has the value of a code has the code
code-agrees : (c : ℕ) (p : Point) (f : ℕ) → differs_from (Code c) p f ≡ false → c ≡ p.code f
code-agrees c p f same = (Decides-eqb c (p.code f)).0 (opened _ same)
  where
    opened : (b : Bool) → not b ≡ false → b ≡ true
    opened true h = refl
    opened false h = sym h

-- two values that a point has are the same
both-agree : (k : Kind) (a b : Value) (p : Point) (f : ℕ) → IsOfKind k a → IsOfKind k b → differs_from a p f ≡ false → differs_from b p f ≡ false → is_same a b
    ≡ true
both-agree k Bad b p f fits also first second = absurd (cc)
both-agree k (Code c) Bad p f fits also first second = absurd (cc)
both-agree k (Number x) Bad p f fits also first second = absurd (cc)
both-agree k (Code c) (Code d) p f fits also first second = (Decides-eqb c d).1 (code-agrees c p f first ∙ sym (code-agrees d p f second))
both-agree k (Number x) (Number y) p f fits also first second =
    let (above, below) = IsOver-unique x y (p.numerator f) p.denominator p.positive (number_agrees x p f first) (number_agrees y p f second) in
    (Decides-int_eq _ _).1 (ap (λ (n : ℤ). n *ℤ y.denominator) above ∙ ap (λ (d : ℤ). y.numerator *ℤ d) (sym below))
both-agree (kind.Number scale) (Code c) (Number y) p f fits also first second = absurd fits
both-agree (kind.Code codes) (Code c) (Number y) p f fits also first second = absurd also
both-agree (kind.Number scale) (Number x) (Code d) p f fits also first second = absurd also
both-agree (kind.Code codes) (Number x) (Code d) p f fits also first second = absurd fits

-- a point that has a field's value differs there from the one that was read exactly where the field is changed
value-differs : (changed : Bool) (k : Kind) (text : List ℕ) (read v : Value) (p : Point) (f : ℕ) → IsOfKind k read → IsValueOf changed k text read v
    → differs_from v p f ≡ false → differs_from read p f ≡ changed
value-differs false k text read v p f fits is agrees = ap (λ (w : Value). differs_from w p f) (sym is) ∙ agrees
value-differs true k text read v p f fits is agrees = by (differs_from read p f) refl
  where
    by : (b : Bool) → differs_from read p f ≡ b → b ≡ true
    by true e = refl
    by false e = absurd (cc (sym is.1 ∙ both-agree k v read p f (given-kind k text v is.0) fits agrees e))

module _ (changed : ℕ → Bool) (text : ℕ → List ℕ) (p : Point) where
  values-differ : (i : ℕ) (fields : List Field) (row new : List Value) → IsRow fields row → AreValuesFrom changed text i fields row new
      → ((j : ℕ) → j < length new → differs_from (value_of new j) p (i + j) ≡ false) → (j : ℕ) → j < length fields → differs_from (value_of row j) p (i + j)
      ≡ changed (i + j)
  values-differ i [] row new are values agrees j below = absurd (omega arith)
  values-differ i (field ∷ fields) [] new are values agrees j below = absurd are
  values-differ i (field ∷ fields) (read ∷ row) [] are values agrees j below = absurd values
  values-differ i (field ∷ fields) (read ∷ row) (v ∷ new) are values agrees zero below =
      let own : i ≡ i + 0 = omega arith in
      subst (λ n. differs_from read p n ≡ changed n) own
      (value-differs (changed i) field.kind (text i) read v p i are.0 values.0 (ap (λ n. differs_from v p n) own ∙ agrees 0 (omega arith)))
  values-differ i (field ∷ fields) (read ∷ row) (v ∷ new) are values agrees (suc j) below =
      let next : (n : ℕ) → suc i + n ≡ i + suc n = λ n. omega arith in
      subst (λ n. differs_from (value_of row j) p n ≡ changed n) (next j)
      (values-differ (suc i) fields row new are.1 values.1 (λ n under. ap (λ m. differs_from (value_of new n) p m) (next n) ∙ agrees (suc n) (omega arith)) j
      (omega arith))

  -- the point differs from the record where fields are changed
  pub row-differs : (fields : List Field) (row new : List Value) → IsRow fields row → AreValuesFrom changed text 0 fields row new → IsPointOf new p → (f : ℕ)
      → f < length fields → differs_from (value_of row f) p f ≡ changed f
  row-differs fields row new are values agrees f below =
      let same : (n : ℕ) → 0 + n ≡ n = λ n. omega arith in
      subst (λ n. differs_from (value_of row f) p n ≡ changed n) (same f) (values-differ 0 fields row new are values
      (λ j within. ap (λ n. differs_from (value_of new j) p n) (same j) ∙ agrees j within) f below)

-- ---- what such a point weighs

order-within : (fields : List Field) → All (λ f. f < length fields) (path_order fields)
order-within fields =
    All-append (λ f. f < length fields) (number_fields fields) (code_fields fields) (numbers-below is_numerical (length fields) fields (number_fields fields)
    (omega arith) refl)
    (numbers-below (λ k. not (is_numerical k)) (length fields) fields (code_fields fields) (omega arith) refl)

-- a point that differs from the record where the path changes it weighs what the path does
pub differing-weighs : (survey : SurveyParts) (row : List Value) (path : List Bool) (p : Point) → IsRow survey.fields row
    → ((f : ℕ) → f < length survey.fields → differs_from (value_of row f) p f ≡ changes survey.fields path f) → change_weight survey row p
    ≡ path_weight survey.fields path
differing-weighs survey row path p are differs =
    sym (changed-weigh survey row p are)
    ∙ ap (sum_by (weight_at survey.fields))
    (filter-agree (λ f. differs_from (value_of row f) p f) (changes survey.fields path) (path_order survey.fields)
    (λ f there. differs f (in-all (λ g. g < length survey.fields) f (path_order survey.fields) (order-within survey.fields) there)))

-- the path that changes nothing weighs nothing
pub empty-weighs : (fields : List Field) → path_weight fields [] ≡ 0
empty-weighs fields = weight-of_word fields [] ∙ ap (sum_by (weight_at fields)) (none-changed (path_order fields))
  where
    none-changed : (order : List ℕ) → changed_in order [] ≡ []
    none-changed [] = refl
    none-changed (f ∷ order) = refl

-- ---- the point of a clean row

module _ (survey : SurveyParts) (well : IsWellFormed survey) (new : List Value) (are : IsRow survey.fields new) (clean : is_clean survey new ≡ true) where
  held : (f : ℕ) → f < length new → value_of new f ≢ Bad
  held f below = clean-held survey new clean f below

  -- it has the row's values
  pub clean-agrees : IsPointOf new (point_of new)
  clean-agrees f below = point_of-agrees new f (held f below)

  rules-hold : (rules : List Rule) → All (IsRule survey.fields) rules → AllByRecursion (λ (rule : Rule). rule_at rule new ≡ Some true) rules
      → AllByRecursion (λ (rule : Rule). Holds rule (point_of new)) rules
  rules-hold [] fit hold = tt
  rules-hold (rule ∷ rules) fit hold =
      let can = can_try survey.fields new are held rule (fit 0 rule (omega arith)) in (
        sym (rule_at-holds rule new (point_of new) true can (point_of-agrees_with new rule can) hold.0),
        rules-hold rules (λ k d below. fit (suc k) d (omega arith)) hold.1,
      )

  -- and it is a correction
  pub clean-corrects : IsCorrection survey (point_of new)
  clean-corrects = record {
    codes = point_of-codes survey.fields new well.fields are;
    rules = rules-hold survey.rules well.rules (clean-holds survey new clean);
  }
