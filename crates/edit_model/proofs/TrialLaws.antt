use Rattle.std.proofs.Common.{◌≡◌, ℕ, suc, ◌<◌, Bool, true, false, not, ◌||◌, if◌then◌else◌, List, [], ◌∷◌, All, Option, Some, None, length, ℤ, pos, ◌<ℤ◌, ◌≤ℤ◌}
use Rattle.std.proofs.Common.{int_le, int_lt, ◌+ℤ◌, ◌*ℤ◌, refl, sym, ap, ◌∙◌, subst, arith}
use Rattle.std.specs.Bool.{Decides, one_answer}
use Rattle.std.specs.List.{list_any}
use Rattle.std.specs.Prelude.{◌==◌}
use Rattle.std.proofs.lemmas.Bool.Decides.{Decides-int_eq, Decides-eqb}
use Rattle.std.proofs.lemmas.Int.{ints}
use Rattle.foundation.specs.Options.{◌>>?◌}
use Rattle.fraction128.proofs.CommonDenominator.{over_product, over_sum}
use Rattle.fraction128.proofs.RatioLaws.{added-value, scaled-value}
use Rattle.fraction128.proofs.Signs.{above-*, above_cancel, at_least-*, at_least_cancel, same_cancel}
use Rattle.fraction128.proofs.Whole.{parts, ring, same_dif}
use Rattle.fraction128.specs.Formulas.{Ratio, added, ratio_of, scaled}
use Rattle.fraction128.specs.declared.fraction.Fraction.{Fraction}
use Rattle.edit_model.specs.Points.{Point, compares, linear_sum, rule_holds, sum_of_terms, test_holds}
use Rattle.edit_model.specs.RowPoints.{Agrees, code_in}
use Rattle.edit_model.specs.Rows.{value_of}
use Rattle.edit_model.specs.Corrections.{differs_from}
use Rattle.edit_model.specs.Trials.{AgreesOnTest, AgreesOnRule, CanTry, HasValues, IsCodeValue, IsNumberValue, code_test, rule_at, trial_sum, sum_over}
use Rattle.edit_model.specs.Trials.{sum_with, test_at, tests_at}
use Rattle.edit_model.specs.declared.rule.Compare.{Compare}
use Rattle.edit_model.specs.declared.rule.Compare.TheVariants.{Ge, Gt, Le, Lt, Eq}
use Rattle.edit_model.specs.declared.rule.Linear.{Linear}
use Rattle.edit_model.specs.declared.rule.Rule.{Rule}
use Rattle.edit_model.specs.declared.rule.Term.{Term}
use Rattle.edit_model.specs.declared.rule.Test.{Test}
use Rattle.edit_model.specs.declared.rule.Test.TheVariants as test
use Rattle.edit_model.specs.declared.value.Value.{Value}
use Rattle.edit_model.specs.declared.value.Value.TheVariants.{Code, Number, Bad}

-- What is tried at a record is the truth of the rule at each point that agrees with the record.

-- a value that leads on to an answer
pub led_on : {A B : Type 0} (o : Option A) (next : A → Option B) (b : B) → (o >>? next) ≡ Some b → (a : A) × (o ≡ Some a) × (next a ≡ Some b)
led_on None next b e = absurd (cc)
led_on (Some a) next b e = (a, refl, e)

pub some_same : {A : Type 0} (a b : A) → Some a ≡ Some b → a ≡ b
some_same a b e = cc

-- ---- the sum of a test

pub nothing_more : (l : ℤ) → pos 0 +ℤ l ≡ l
nothing_more l = rw (parts l) (simp ring (same_dif _ _ _ _ (omega arith)))

regrouped : (s l p k : ℤ) → s +ℤ (l +ℤ p *ℤ k) ≡ k *ℤ p +ℤ s +ℤ l
regrouped s l p k = rw (parts s, parts l, parts p, parts k) (simp ring (same_dif _ _ _ _ (omega arith)))

pub over_one : (n d : ℤ) → n *ℤ d ≡ n *ℤ d *ℤ pos 1
over_one n d = rw (parts n, parts d) (simp ring (same_dif _ _ _ _ (omega arith)))

-- a point that has the number's value at a field
pub number_agrees : (x : Fraction) (p : Point) (f : ℕ) → differs_from (Number x) p f ≡ false → x.numerator *ℤ p.denominator ≡ p.numerator f *ℤ x.denominator
number_agrees x p f same = sym ((Decides-int_eq (p.numerator f *ℤ x.denominator) (x.numerator *ℤ p.denominator)).0 (true_from_not _ same))
  where
    true_from_not : (b : Bool) → not b ≡ false → b ≡ true
    true_from_not true h = refl
    true_from_not false h = sym h

-- the sum so far is l over the point's denominator, and so with a term more
module _ (p : Point) where
  unfoldable pub IsOverPoint : Ratio → ℤ → Type 0
  IsOverPoint s l = (s.numerator *ℤ p.denominator ≡ l *ℤ s.denominator) × (pos 0 <ℤ s.denominator)

  pub sum_with-over : (sum s : Ratio) (k l : ℤ) (v : Value) (f : ℕ) → IsNumberValue v → differs_from v p f ≡ false → IsOverPoint sum l → sum_with sum k v
      ≡ Some s
      → IsOverPoint s (l +ℤ p.numerator f *ℤ k)
  unfolding IsOverPoint
  sum_with-over sum s k l Bad f is same before e = absurd is
  sum_with-over sum s k l (Code c) f is same before e = absurd is
  sum_with-over sum s k l (Number x) f is same before e =
      let (y, first, second) = led_on (scaled (ratio_of x) k) (λ y. added sum y) s e in
      let product = scaled-value (ratio_of x) k y x.positive first in
      let total = added-value sum y s before.1 product.1 second in
      let y_over : y.numerator *ℤ p.denominator ≡ p.numerator f *ℤ k *ℤ y.denominator =
      over_product x.numerator x.denominator y.numerator y.denominator (p.numerator f) p.denominator k x.positive (number_agrees x p f same) product.0 in (
        over_sum sum.numerator sum.denominator y.numerator y.denominator s.numerator s.denominator l (p.numerator f *ℤ k) p.denominator before.1 product.1
            before.0 y_over total.0,
        total.1,
      )

  -- and with all terms
  sum_over-over : (terms : List Term) (row : List Value) (sum s : Ratio) (l : ℤ) → All (λ (t : Term). (t.field < length row)
      × IsNumberValue (value_of row t.field)) terms → All (λ (t : Term). Agrees row p t.field) terms
      → IsOverPoint sum l → sum_over terms row sum ≡ Some s → IsOverPoint s (sum_of_terms terms p +ℤ l)
  unfolding IsOverPoint
  sum_over-over [] row sum s l held agreed before e =
      let P : ℤ → Type 0 = λ n. (s.numerator *ℤ p.denominator ≡ n *ℤ s.denominator) × (pos 0 <ℤ s.denominator) in
      subst P (sym (nothing_more l)) (subst (λ (r : Ratio). (r.numerator *ℤ p.denominator ≡ l *ℤ r.denominator) × (pos 0 <ℤ r.denominator)) (some_same sum s e)
      before)
  sum_over-over (term ∷ terms) row sum s l held agreed before e =
      let P : ℤ → Type 0 = λ n. (s.numerator *ℤ p.denominator ≡ n *ℤ s.denominator) × (pos 0 <ℤ s.denominator) in
      let (next, first, second) = led_on (sum_with sum term.factor (value_of row term.field)) (λ next. sum_over terms row next) s e in
      let number : IsNumberValue (value_of row term.field) = (held 0 term (omega arith)).1 in
      let agrees : Agrees row p term.field = agreed 0 term (omega arith) in
      let here = sum_with-over sum next term.factor l (value_of row term.field) term.field number agrees before first in
      let rest = sum_over-over terms row next s (l +ℤ p.numerator term.field *ℤ term.factor) (λ k d below. held (suc k) d (omega arith))
      (λ k d below. agreed (suc k) d (omega arith)) here second in
      subst P (regrouped (sum_of_terms terms p) l (p.numerator term.field) term.factor) rest

  -- the sum of a test is its linear sum, over the point's denominator
  sum_at-over : (linear : Linear) (row : List Value) (s : Ratio) → HasValues row (test.Number linear) → AgreesOnTest row p (test.Number linear)
      → trial_sum linear row ≡ Some s → IsOverPoint s (linear_sum linear p)
  unfolding IsOverPoint
  sum_at-over linear row s held agreed e =
      sum_over-over linear.terms row (record { numerator = linear.constant; denominator = pos 1 }) s (linear.constant *ℤ p.denominator) held agreed
      (over_one linear.constant p.denominator, omega (arith, ints)) e

-- ---- the answer of a test

-- two numbers of one sign compare alike with 0
module _ (d e : ℤ) (d_above : pos 0 <ℤ d) (e_above : pos 0 <ℤ e) where
  at_least_too : (a b : ℤ) → a *ℤ d ≡ b *ℤ e → pos 0 ≤ℤ a → pos 0 ≤ℤ b
  at_least_too a b same h = at_least_cancel b e e_above (subst (λ (z : ℤ). pos 0 ≤ℤ z) same (at_least-* a d h (omega (arith, ints))))

  above_too : (a b : ℤ) → a *ℤ d ≡ b *ℤ e → pos 0 <ℤ a → pos 0 <ℤ b
  above_too a b same h = above_cancel b e e_above (subst (λ (z : ℤ). pos 0 <ℤ z) same (above-* a d h d_above))

  zero_too : (a b : ℤ) → a *ℤ d ≡ b *ℤ e → a ≡ pos 0 → b ≡ pos 0
  zero_too a b same h = same_cancel b (pos 0) e e_above (sym same ∙ ap (λ (z : ℤ). z *ℤ d) h ∙ no_times d e)
    where
      no_times : (d e : ℤ) → pos 0 *ℤ d ≡ pos 0 *ℤ e
      no_times d e = rw (parts d, parts e) (simp ring (same_dif _ _ _ _ (omega arith)))

le_decides : (z : ℤ) → Decides (int_le (pos 0) z) (pos 0 ≤ℤ z)
le_decides z = (λ h. grind (arith, ints), λ h. grind (arith, ints))

lt_decides : (z : ℤ) → Decides (int_lt (pos 0) z) (pos 0 <ℤ z)
lt_decides z = (λ h. grind (arith, ints), λ h. grind (arith, ints))

at_most_not_above : (z : ℤ) → int_le z (pos 0) ≡ not (int_lt (pos 0) z)
at_most_not_above z = grind (arith, ints)

below_not_at_least : (z : ℤ) → int_lt z (pos 0) ≡ not (int_le (pos 0) z)
below_not_at_least z = grind (arith, ints)

same_tests : {P Q : Type 0} (r s : Bool) → Decides r P → Decides s Q → (P → Q) → (Q → P) → r ≡ s
same_tests r s p q there back = one_answer r s p (λ h. back (q.0 h), λ h. q.1 (there h))

compares_alike : (c : Compare) (a b d e : ℤ) → pos 0 <ℤ d → pos 0 <ℤ e → a *ℤ d ≡ b *ℤ e → compares c a ≡ compares c b
compares_alike c a b d e d_above e_above same = by c
  where
    ge : int_le (pos 0) a ≡ int_le (pos 0) b
    ge = same_tests _ _ (le_decides a) (le_decides b) (at_least_too d e d_above e_above a b same) (at_least_too e d e_above d_above b a (sym same))

    gt : int_lt (pos 0) a ≡ int_lt (pos 0) b
    gt = same_tests _ _ (lt_decides a) (lt_decides b) (above_too d e d_above e_above a b same) (above_too e d e_above d_above b a (sym same))

    by : (c : Compare) → compares c a ≡ compares c b
    by Ge = ge
    by Gt = gt
    by Le = at_most_not_above a ∙ ap not gt ∙ sym (at_most_not_above b)
    by Lt = below_not_at_least a ∙ ap not ge ∙ sym (below_not_at_least b)
    by Eq = same_tests _ _ (Decides-int_eq a (pos 0)) (Decides-int_eq b (pos 0)) (zero_too d e d_above e_above a b same)
        (zero_too e d e_above d_above b a (sym same))

-- a code test is true at a record exactly where it is at a point with the record's code
code_at : (v : Value) (p : Point) (f : ℕ) → IsCodeValue v → differs_from v p f ≡ false → code_in v ≡ p.code f
code_at (Code c) p f is same = (Decides-eqb c (p.code f)).0 (by (c == p.code f) same)
  where
    by : (b : Bool) → not b ≡ false → b ≡ true
    by true h = refl
    by false h = sym h
code_at (Number x) p f is same = absurd is
code_at Bad p f is same = absurd is

-- what a test answers at a record is its truth at a point that agrees with the record
pub test_at-holds : (t : Test) (row : List Value) (p : Point) (b : Bool) → HasValues row t → AgreesOnTest row p t → test_at t row ≡ Some b → b ≡ test_holds t p
unfolding IsOverPoint
test_at-holds (test.Number linear) row p b held agreed e =
    let (s, first, second) = led_on (trial_sum linear row) (λ sum. Some (compares linear.compare sum.numerator)) b e in
    let over = sum_at-over p linear row s held agreed first in
    sym (some_same _ b second) ∙ compares_alike linear.compare s.numerator (linear_sum linear p) p.denominator s.denominator p.positive over.1 over.0
test_at-holds (test.Codes field negated set) row p b held agreed e =
    sym (some_same _ b e) ∙ ap (code_test negated set) (code_at (value_of row field) p field held.1 agreed)

-- a false condition settles the rule, and else the later tests do
first_decides : (first here some_false last b : Bool) (later : Option Bool) → first ≡ here → (later ≡ Some b → b ≡ (some_false || last))
    → (if first then later else Some true) ≡ Some b
    → b ≡ ((not here || some_false) || last)
first_decides true here some_false last b later same rest e = rw (← same) (rest e)
first_decides false here some_false last b later same rest e = rw (← same) (sym (some_same true b e))

-- what a rule answers at a record is its truth at a point that agrees with the record
tests_at-holds : (conditions : List Test) (conclusion : Test) (row : List Value) (p : Point) (b : Bool) → All (HasValues row) conditions
    → HasValues row conclusion
    → All (AgreesOnTest row p) conditions → AgreesOnTest row p conclusion → tests_at conditions conclusion row ≡ Some b
    → b ≡ (list_any (λ (t : Test). not (test_holds t p)) conditions || test_holds conclusion p)
tests_at-holds [] conclusion row p b held last agreed last_agreed e = test_at-holds conclusion row p b last last_agreed e
tests_at-holds (t ∷ ts) conclusion row p b held last agreed last_agreed e =
    let (first, one, rest) = led_on (test_at t row) (λ holds. if holds then tests_at ts conclusion row else Some true) b e in
    let here : first ≡ test_holds t p = test_at-holds t row p first (held 0 t (omega arith)) (agreed 0 t (omega arith)) one in
    let later : tests_at ts conclusion row ≡ Some b → b ≡ (list_any (λ (t : Test). not (test_holds t p)) ts || test_holds conclusion p) =
    tests_at-holds ts conclusion row p b (λ k d below. held (suc k) d (omega arith)) last (λ k d below. agreed (suc k) d (omega arith)) last_agreed in
    first_decides first (test_holds t p) (list_any (λ (t : Test). not (test_holds t p)) ts) (test_holds conclusion p) b (tests_at ts conclusion row) here later
    rest

pub rule_at-holds : (rule : Rule) (row : List Value) (p : Point) (b : Bool) → CanTry row rule → AgreesOnRule row p rule → rule_at rule row ≡ Some b → b
    ≡ rule_holds rule p
rule_at-holds rule row p b can agreed e = tests_at-holds rule.conditions rule.conclusion row p b can.conditions can.conclusion agreed.conditions
    agreed.conclusion e
