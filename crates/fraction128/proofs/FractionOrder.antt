use Rattle.std.proofs.Common.{◌≡◌, ℤ, pos, ◌<ℤ◌, ◌≤ℤ◌, ◌*ℤ◌, arith}
use Rattle.std.specs.declared.cmp.Ordering.{Ordering}
use Rattle.std.specs.declared.cmp.Ordering.TheVariants.{Less, Equal, Greater}
use Rattle.std.specs.Ordering.{int_cmp, MatchOrdering}
use Rattle.std.proofs.lemmas.Cmp.{int_ranked}
use Rattle.std.proofs.lemmas.Int.{ints}
use Rattle.fraction128.specs.declared.fraction.Fraction.{Fraction}
use Rattle.fraction128.proofs.LowestLaws.{fraction_unique, Fraction-same}
use Rattle.fraction128.proofs.Signs.{at_most-*, at_most_cancel, below-*, below_cancel}
use Rattle.fraction128.proofs.Whole.{swap_last}

-- The order of fractions.

-- x is less than y
abbrev pub IsBelow : Fraction → Fraction → Type 0
IsBelow x y = (x.numerator *ℤ y.denominator) <ℤ (y.numerator *ℤ x.denominator)

-- x is at most y
abbrev pub IsAtMost : Fraction → Fraction → Type 0
IsAtMost x y = (x.numerator *ℤ y.denominator) ≤ℤ (y.numerator *ℤ x.denominator)

-- what an answer of `compare` says
pub compared : (x y : Fraction) (r : Ordering) → r ≡ int_cmp (x.numerator *ℤ y.denominator) (y.numerator *ℤ x.denominator)
    → MatchOrdering r (IsBelow x y) (x ≡ y) (IsBelow y x)
compared x y r e = at_order r (int_ranked (x.numerator *ℤ y.denominator) (y.numerator *ℤ x.denominator) r e)
  where
    at_order : (r : Ordering) → MatchOrdering r (IsBelow x y) (x.numerator *ℤ y.denominator ≡ y.numerator *ℤ x.denominator) (IsBelow y x)
        → MatchOrdering r (IsBelow x y) (x ≡ y) (IsBelow y x)
    at_order Less h = h
    at_order Equal h = let same = fraction_unique x y h in Fraction-same x y same.0 same.1
    at_order Greater h = h

-- a/b is below c/d, and c/d below e/f
pub cross_below-trans : (a b c d e f : ℤ) → pos 0 <ℤ b → pos 0 <ℤ d → pos 0 <ℤ f → (a *ℤ d) <ℤ (c *ℤ b) → (c *ℤ f) <ℤ (e *ℤ d) → (a *ℤ f) <ℤ (e *ℤ b)
cross_below-trans a b c d e f b_above d_above f_above first second =
    below_cancel (a *ℤ f) (e *ℤ b) d d_above
    (rw (swap_last a f d, swap_last e b d)
    (chain (a *ℤ d *ℤ f) (c *ℤ b *ℤ f) (e *ℤ d *ℤ b) (below-* (a *ℤ d) (c *ℤ b) f f_above first)
    (rw (swap_last c b f) (below-* (c *ℤ f) (e *ℤ d) b b_above second))))
  where
    chain : (x y z : ℤ) → x <ℤ y → y <ℤ z → x <ℤ z
    chain x y z p q = omega (arith, ints)

-- the same where the fractions may be equal
pub cross_at_most-trans : (a b c d e f : ℤ) → pos 0 <ℤ b → pos 0 <ℤ d → pos 0 <ℤ f → (a *ℤ d) ≤ℤ (c *ℤ b) → (c *ℤ f) ≤ℤ (e *ℤ d) → (a *ℤ f) ≤ℤ (e *ℤ b)
cross_at_most-trans a b c d e f b_above d_above f_above first second =
    at_most_cancel (a *ℤ f) (e *ℤ b) d d_above
    (rw (swap_last a f d, swap_last e b d)
    (chain (a *ℤ d *ℤ f) (c *ℤ b *ℤ f) (e *ℤ d *ℤ b) (at_most-* (a *ℤ d) (c *ℤ b) f f_above first)
    (rw (swap_last c b f) (at_most-* (c *ℤ f) (e *ℤ d) b b_above second))))
  where
    chain : (x y z : ℤ) → x ≤ℤ y → y ≤ℤ z → x ≤ℤ z
    chain x y z p q = omega (arith, ints)

-- the same of fractions in lowest terms
pub IsBelow-trans : (x y z : Fraction) → IsBelow x y → IsBelow y z → IsBelow x z
IsBelow-trans x y z p q = cross_below-trans _ _ _ _ _ _ x.positive y.positive z.positive p q

pub IsAtMost-trans : (x y z : Fraction) → IsAtMost x y → IsAtMost y z → IsAtMost x z
IsAtMost-trans x y z p q = cross_at_most-trans _ _ _ _ _ _ x.positive y.positive z.positive p q
