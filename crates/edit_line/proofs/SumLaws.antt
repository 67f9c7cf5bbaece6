use Rattle.std.proofs.Common.{◌≡◌, ◌≢◌, ℕ, Bool, true, false, not, if◌then◌else◌, List, [], ◌∷◌, Option, Some, None, Result, Ok, Err, IfOk, IfErr, map, ℤ, pos}
use Rattle.std.proofs.Common.{◌<ℤ◌, ◌+ℤ◌, ◌*ℤ◌, refl, sym, ap, ◌∙◌, subst, arith}
use Rattle.std.specs.Bool.{one_answer}
use Rattle.std.specs.Ordering.{int_eq}
use Rattle.std.proofs.lemmas.Bool.Decides.{Decides-int_eq}
use Rattle.std.proofs.lemmas.Int.{ints}
use Rattle.std.specs.Option.{ok_or}
use Rattle.edit_line.specs.inner.LineFields.{HasNumbers}
use Rattle.foundation.specs.Results.{◌>>=◌}
use Rattle.fraction128.proofs.Whole.{parts, ring, same_dif}
use Rattle.fraction128.specs.Formulas.{Ratio, ratio_of}
use Rattle.fraction128.specs.declared.fraction.Fraction.{Fraction}
use Rattle.edit_model.specs.Points.{Point}
use Rattle.edit_model.specs.RowPoints.{Agrees}
use Rattle.edit_model.specs.Rows.{value_of}
use Rattle.edit_model.specs.Trials.{IsNumberValue, sum_with}
use Rattle.edit_model.specs.Corrections.{differs_from}
use Rattle.edit_model.specs.declared.value.Value.{Value}
use Rattle.edit_line.specs.Lines.{IsEnough, LineParts, amount, weighted}
use Rattle.edit_line.specs.Shapes.{number_fields}
use Rattle.edit_line.specs.Subsumption.{is_enough}
use Rattle.edit_line.specs.Sums.{AgreesOnLine, AtFactors, fails_at, fails_by, next_sum, sum_at, sum_from, whole}
use Rattle.edit_line.specs.declared.overflow.LineOverflow.{LineOverflow}
use Rattle.edit_model.proofs.TrialLaws.{IsOverPoint, nothing_more, over_one, some_same, sum_with-over}
use Rattle.edit_line.specs.declared.relation.Relation.{Relation}
use Rattle.edit_line.proofs.Enough.{IsEnough-times, IsEnough_cancel, is_enough-Decides}

-- A line's sum at a record is its amount at each point that agrees with the record.

-- a sum that leads on to an answer
field_on : (f : ℕ) (o : Option Ratio) (next : Ratio → Result Ratio ℕ) (s : Ratio) → (ok_or o f >>= next) ≡ Ok s → (sum : Ratio) × (o ≡ Some sum)
    × (next sum ≡ Ok s)
field_on f None next s e = absurd (cc)
field_on f (Some sum) next s e = (sum, refl, e)

ok_same : {A : Type 0} (a b : A) (r : Result A ℕ) → r ≡ Ok a → r ≡ Ok b → a ≡ b
ok_same a b r first second = cc

regrouped : (w l a n : ℤ) → w +ℤ (l +ℤ n *ℤ a) ≡ (a *ℤ n +ℤ w) +ℤ l
regrouped w l a n = rw (parts w, parts l, parts a, parts n) (simp ring (same_dif _ _ _ _ (omega arith)))

no_term : (w l a n : ℤ) → a ≡ pos 0 → w +ℤ l ≡ (a *ℤ n +ℤ w) +ℤ l
no_term w l a n is = rw (is, parts w, parts l, parts n) (simp ring (same_dif _ _ _ _ (omega arith)))

module _ (p : Point) where
  -- one factor more
  next-over : (sum s : Ratio) (a l w : ℤ) (v : Value) (f : ℕ) → (a ≢ pos 0 → IsNumberValue v) → (a ≢ pos 0 → differs_from v p f ≡ false) → IsOverPoint p sum l
      → next_sum a v sum ≡ Some s
      → (m : ℤ) × IsOverPoint p s m × (w +ℤ m ≡ (a *ℤ p.numerator f +ℤ w) +ℤ l)
  unfolding IsOverPoint
  next-over sum s a l w v f number agrees before e = by (int_eq a (pos 0)) refl e
    where
      by : (b : Bool) → int_eq a (pos 0) ≡ b → (if b then Some sum else sum_with sum a v) ≡ Some s
          → (m : ℤ) × ((s.numerator *ℤ p.denominator ≡ m *ℤ s.denominator) × (pos 0 <ℤ s.denominator)) × (w +ℤ m ≡ (a *ℤ p.numerator f +ℤ w) +ℤ l)
      by true is h = (
        l,
        subst (λ (r : Ratio). (r.numerator *ℤ p.denominator ≡ l *ℤ r.denominator) × (pos 0 <ℤ r.denominator)) (some_same sum s h) before,
        no_term w l a (p.numerator f) ((Decides-int_eq a (pos 0)).0 is),
      )
      by false is h =
          let apart : a ≢ pos 0 = λ same. absurd (cc (sym is ∙ (Decides-int_eq a (pos 0)).1 same)) in
          (l +ℤ p.numerator f *ℤ a, sum_with-over p sum s a l v f (number apart) (agrees apart) before h, regrouped w l a (p.numerator f))

  -- all factors
  sum_from-over : (fields : List ℕ) (factors : List ℤ) (row : List Value) (sum s : Ratio) (l : ℤ)
      → AtFactors (λ f. IsNumberValue (value_of row f)) fields factors → AtFactors (λ f. Agrees row p f) fields factors
      → IsOverPoint p sum l → sum_from fields factors row sum ≡ Ok s → IsOverPoint p s (weighted factors (map p.numerator fields) +ℤ l)
  sum_from-over [] factors row sum s l held agreed before e = ended (weighted_none factors) (ok_same sum s (Ok sum) refl e) before
    where
      weighted_none : (factors : List ℤ) → weighted factors [] ≡ pos 0
      weighted_none [] = refl
      weighted_none (a ∷ factors) = refl

      ended : weighted factors [] ≡ pos 0 → sum ≡ s → IsOverPoint p sum l → IsOverPoint p s (weighted factors [] +ℤ l)
      ended none same h = subst (λ (z : ℤ). IsOverPoint p s z) (sym (ap (λ (z : ℤ). z +ℤ l) none ∙ nothing_more l))
          (subst (λ (r : Ratio). IsOverPoint p r l) same h)
  sum_from-over (f ∷ fields) [] row sum s l held agreed before e = subst (λ (z : ℤ). IsOverPoint p s z) (sym (nothing_more l))
      (subst (λ (r : Ratio). IsOverPoint p r l) (ok_same sum s (Ok sum) refl e) before)
  sum_from-over (f ∷ fields) (a ∷ factors) row sum s l held agreed before e =
      let (next, first, second) = field_on f (next_sum a (value_of row f) sum) (λ next. sum_from fields factors row next) s e in
      let (m, here, same) = next-over sum next a l (weighted factors (map p.numerator fields)) (value_of row f) f held.0 agreed.0 before first in
      subst (λ (z : ℤ). IsOverPoint p s z) same (sum_from-over fields factors row next s m held.1 agreed.1 here second)

  -- the sum of a line is its amount, over the point's denominator
  pub sum_at-over : (line : LineParts) (row : List Value) (s : Ratio) → HasNumbers row line → AgreesOnLine row p line → sum_at line row ≡ Ok s
      → (s.numerator *ℤ p.denominator ≡ amount line p *ℤ s.denominator) × (pos 0 <ℤ s.denominator)
  unfolding IsOverPoint
  sum_at-over line row s held agreed e =
      sum_from-over (number_fields line.shape) line.factors row (record { numerator = line.constant; denominator = pos 1 }) s (line.constant *ℤ p.denominator)
      held agreed
      (over_one line.constant p.denominator, omega (arith, ints)) e

-- two numbers of one sign are enough alike
alike : (relation : Relation) (a b d e : ℤ) → pos 0 <ℤ d → pos 0 <ℤ e → a *ℤ d ≡ b *ℤ e → is_enough relation a ≡ is_enough relation b
alike relation a b d e d_above e_above same =
    one_answer (is_enough relation a) (is_enough relation b) (is_enough-Decides relation a) (
      λ h. IsEnough_cancel relation a d d_above (subst (λ (z : ℤ). IsEnough relation z) (sym same)
          (IsEnough-times relation b e e_above ((is_enough-Decides relation b).0 h))),
      λ h. (is_enough-Decides relation b).1
          (IsEnough_cancel relation b e e_above (subst (λ (z : ℤ). IsEnough relation z) same (IsEnough-times relation a d d_above h))),
    )

-- whether a line fails at a record is whether its amount is not enough at a point that agrees with the record
pub fails_at-truth : (line : LineParts) (row : List Value) (p : Point) (failed : Bool) → HasNumbers row line → AgreesOnLine row p line → fails_at line row
    ≡ Ok failed
    → failed ≡ not (is_enough line.relation (amount line p))
fails_at-truth line row p failed held agreed e = by (sum_at line row) refl e
  where
    by : (r : Result Ratio ℕ) → sum_at line row ≡ r → fails_by line.relation r ≡ Ok failed → failed ≡ not (is_enough line.relation (amount line p))
    by (Ok s) is h =
        let over = sum_at-over p line row s held agreed is in
        sym (ok_same _ failed _ refl h) ∙ ap not (alike line.relation s.numerator (amount line p) p.denominator s.denominator p.positive over.1 over.0)
    by (Err f) is h = absurd (cc)

-- ---- what the calls answer

-- the sum over a line's own fields and numbers
pub sum-is : (line : LineParts) (row : List Value) (fields : List ℕ) (factors : List ℤ) (constant : ℤ) → fields ≡ number_fields line.shape → factors
    ≡ line.factors → constant ≡ line.constant
    → sum_from fields factors row (whole constant) ≡ sum_at line row
sum-is line row fields factors constant same_fields same_factors same_constant =
    ap (λ fs. sum_from fs factors row (whole constant)) same_fields ∙ ap (λ (ks : List ℤ). sum_from (number_fields line.shape) ks row (whole constant))
    same_factors ∙ ap (λ (k : ℤ). sum_from (number_fields line.shape) line.factors row (whole k)) same_constant

-- a value that was answered
module _ (line : LineParts) (row : List Value) (sum : Result Ratio ℕ) (same : sum ≡ sum_at line row) where
  pub value-answered : (r : Result Fraction LineOverflow) → IfOk r (λ x. sum ≡ Ok (ratio_of x)) → IfOk r (λ x. sum_at line row ≡ Ok (ratio_of x))
  value-answered (Ok x) e = sym same ∙ e
  value-answered (Err fault) e = tt

  pub overflow-answered : (r : Result Fraction LineOverflow) → IfErr r (λ fault. sum ≡ Err fault.field) → IfErr r (λ fault. sum_at line row ≡ Err fault.field)
  overflow-answered (Ok x) e = tt
  overflow-answered (Err fault) e = sym same ∙ e

  pub amount-answered : ((p : Point) → AgreesOnLine row p line → HasNumbers row line) → (r : Result Fraction LineOverflow) → IfOk r (λ x. sum ≡ Ok (ratio_of x))
      → IfOk r (λ x. (p : Point) → AgreesOnLine row p line → x.numerator *ℤ p.denominator ≡ amount line p *ℤ x.denominator)
  amount-answered held (Ok x) e = λ p agrees. (sum_at-over p line row (ratio_of x) (held p agrees) agrees (sym same ∙ e)).0
  amount-answered held (Err fault) e = tt

-- whether a line fails, from its sum
pub fails-answered : (line : LineParts) (row : List Value) (p : Point) (sum : Fraction) (relation : Relation) (enough : Bool) (n : ℤ) → HasNumbers row line
    → AgreesOnLine row p line → sum_at line row ≡ Ok (ratio_of sum)
    → relation ≡ line.relation → n ≡ sum.numerator → enough ≡ is_enough relation n → not enough ≡ not (is_enough line.relation (amount line p))
fails-answered line row p sum relation enough n held agrees e same number is =
    let answer : fails_at line row ≡ Ok (not (is_enough line.relation sum.numerator)) = ap (fails_by line.relation) e in
    ap not (is ∙ ap (λ b. is_enough b n) same ∙ ap (λ (k : ℤ). is_enough line.relation k) number) ∙ fails_at-truth line row p _ held agrees answer
