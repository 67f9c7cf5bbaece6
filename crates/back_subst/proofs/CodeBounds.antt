use Rattle.std.proofs.Common.{◌≡◌, ◌||◌, ◌&&◌, not, Bool, true, false, int_lt, ℤ, pos, ◌<ℤ◌, ◌-ℤ◌, ◌*ℤ◌, refl, sym, ap, ◌∙◌, subst, arith}
use lib.IntN.{neg_ℤ}
use Rattle.std.specs.Ordering.{int_eq}
use Rattle.std.proofs.lemmas.Bool.Decides.{Decides-int_eq}
use Rattle.std.proofs.lemmas.Int.{ints}
use Rattle.fraction128.specs.Formulas.{ratio_of}
use Rattle.fraction128.specs.declared.fraction.Fraction.{Fraction}
use Rattle.fraction128.proofs.FractionOrder.{IsBelow}
use Rattle.edit_line.specs.Lines.{bound_relation}
use Rattle.edit_line.specs.Subsumption.{is_enough}
use Rattle.back_subst.specs.NumberWalk.{inside_by, is_further_in}
use Rattle.back_subst.specs.inner.Sides.{found_of, side_of}
use Rattle.back_subst.specs.declared.bound.Bound.{Bound}
use Rattle.back_subst.proofs.BoundLaws.{minus, once}

-- Bounds, as the code compares them.

-- ---- signs
short : (strict : Bool) (z : ℤ) → z <ℤ pos 0 → is_enough (bound_relation strict) z ≡ false
short true z h = grind (arith, ints)
short false z h = grind (arith, ints)

plenty : (strict : Bool) (z : ℤ) → pos 0 <ℤ z → is_enough (bound_relation strict) z ≡ true
plenty true z h = grind (arith, ints)
plenty false z h = grind (arith, ints)

at_end : (strict : Bool) (z : ℤ) → z ≡ pos 0 → is_enough (bound_relation strict) z ≡ not strict
at_end true z h = rw h refl
at_end false z h = rw h refl

less_gap : (a b : ℤ) → a <ℤ b → (a -ℤ b) <ℤ pos 0
less_gap a b h = omega (arith, ints)

more_gap : (a b : ℤ) → a <ℤ b → pos 0 <ℤ neg_ℤ (a -ℤ b)
more_gap a b h = omega (arith, ints)

above_gap : (a b : ℤ) → b <ℤ a → pos 0 <ℤ (a -ℤ b)
above_gap a b h = omega (arith, ints)

under_gap : (a b : ℤ) → b <ℤ a → neg_ℤ (a -ℤ b) <ℤ pos 0
under_gap a b h = omega (arith, ints)

no_gap : (a b : ℤ) → a ≡ b → a -ℤ b ≡ pos 0
no_gap a b h = omega (arith, ints)

no_neg : (z : ℤ) → z ≡ pos 0 → neg_ℤ z ≡ pos 0
no_neg z h = rw h refl

-- ---- a number on either side of a bound

pub admits-less : (lower : Bool) (b : Bound) (x : Fraction) → IsBelow x b.at
    → not lower ≡ is_enough (bound_relation b.strict) (inside_by (side_of lower) (found_of b) (ratio_of x))
admits-less true b x h = sym (short b.strict _ (subst (λ (z : ℤ). z <ℤ pos 0) (sym (once _)) (less_gap _ _ h)))
admits-less false b x h = sym (plenty b.strict _ (subst (λ (z : ℤ). pos 0 <ℤ z) (sym (minus _)) (more_gap _ _ h)))

pub admits-greater : (lower : Bool) (b : Bound) (x : Fraction) → IsBelow b.at x
    → lower ≡ is_enough (bound_relation b.strict) (inside_by (side_of lower) (found_of b) (ratio_of x))
admits-greater true b x h = sym (plenty b.strict _ (subst (λ (z : ℤ). pos 0 <ℤ z) (sym (once _)) (above_gap _ _ h)))
admits-greater false b x h = sym (short b.strict _ (subst (λ (z : ℤ). z <ℤ pos 0) (sym (minus _)) (under_gap _ _ h)))

pub admits-equal : (lower : Bool) (b : Bound) (x : Fraction) → x ≡ b.at
    → not b.strict ≡ is_enough (bound_relation b.strict) (inside_by (side_of lower) (found_of b) (ratio_of x))
admits-equal true b x same =
    sym (at_end b.strict _ (once _ ∙ no_gap _ _ (ap (λ (y : Fraction). y.numerator *ℤ b.at.denominator) same
    ∙ ap (λ (y : Fraction). b.at.numerator *ℤ y.denominator) (sym same))))
admits-equal false b x same =
    sym (at_end b.strict _ (minus _ ∙ no_neg _ (no_gap _ _
    (ap (λ (y : Fraction). y.numerator *ℤ b.at.denominator) same ∙ ap (λ (y : Fraction). b.at.numerator *ℤ y.denominator) (sym same)))))

-- ---- the tighter of two bounds

above_first : (z : ℤ) (rest : Bool) → pos 0 <ℤ z → true ≡ (int_lt (pos 0) z || (int_eq z (pos 0) && rest))
above_first z rest above = sym (ap (λ b. b || (int_eq z (pos 0) && rest)) (told z above))
  where
    told : (z : ℤ) → pos 0 <ℤ z → int_lt (pos 0) z ≡ true
    told z above = grind (arith, ints)

below_first : (z : ℤ) (rest : Bool) → z <ℤ pos 0 → false ≡ (int_lt (pos 0) z || (int_eq z (pos 0) && rest))
below_first z rest below = sym (ap (λ b. b || (int_eq z (pos 0) && rest)) (told z below) ∙ ap (λ b. b && rest) (apart (int_eq z (pos 0)) refl))
  where
    told : (z : ℤ) → z <ℤ pos 0 → int_lt (pos 0) z ≡ false
    told z below = grind (arith, ints)

    none : (z : ℤ) → z <ℤ pos 0 → z ≡ pos 0 → ⊥
    none z below is = omega (arith, ints)

    apart : (b : Bool) → int_eq z (pos 0) ≡ b → b ≡ false
    apart false e = refl
    apart true e = absurd (none z below ((Decides-int_eq z (pos 0)).0 e))

equal_first : (z : ℤ) (rest : Bool) → z ≡ pos 0 → rest ≡ (int_lt (pos 0) z || (int_eq z (pos 0) && rest))
equal_first z rest is = rw is refl

module _ (self other : Bound) where
  pub tighter-less : (lower : Bool) → IsBelow self.at other.at → not lower ≡ is_further_in (side_of lower) (found_of other) (found_of self)
  tighter-less true below = below_first _ _ (subst (λ (z : ℤ). z <ℤ pos 0) (sym (once _)) (less_gap _ _ below))
  tighter-less false below = above_first _ _ (subst (λ (z : ℤ). pos 0 <ℤ z) (sym (minus _)) (more_gap _ _ below))

  pub tighter-greater : (lower : Bool) → IsBelow other.at self.at → lower ≡ is_further_in (side_of lower) (found_of other) (found_of self)
  tighter-greater true above = above_first _ _ (subst (λ (z : ℤ). pos 0 <ℤ z) (sym (once _)) (above_gap _ _ above))
  tighter-greater false above = below_first _ _ (subst (λ (z : ℤ). z <ℤ pos 0) (sym (minus _)) (under_gap _ _ above))

  pub tighter-equal : (lower : Bool) → self.at ≡ other.at → (self.strict && not other.strict) ≡ is_further_in (side_of lower) (found_of other) (found_of self)
  tighter-equal lower same = equal_first _ _ (by lower)
    where
      level : self.at.numerator *ℤ other.at.denominator ≡ other.at.numerator *ℤ self.at.denominator
      level = ap (λ (y : Fraction). y.numerator *ℤ other.at.denominator) same ∙ ap (λ (y : Fraction). other.at.numerator *ℤ y.denominator) (sym same)

      by : (lower : Bool) → inside_by (side_of lower) (found_of other) (ratio_of self.at) ≡ pos 0
      by true = once _ ∙ no_gap _ _ level
      by false = minus _ ∙ no_neg _ (no_gap _ _ level)
