use Rattle.std.proofs.Common.{◌≡◌, ◌≢◌, ℤ, pos, ◌<ℤ◌, ◌+ℤ◌, ◌*ℤ◌, Option, Some, None, Result, Ok, Err, sym, ap, ◌∙◌, arith}
use Rattle.std.specs.Result.{IsErr}
use Rattle.std.proofs.lemmas.Int.{ints}
use Rattle.foundation.specs.Options.{◌>>?◌}
use Rattle.fraction128.specs.Formulas.{Ratio, added, answered, divided, middle, ratio_of}
use Rattle.fraction128.specs.declared.fraction.Fraction.{Fraction}
use Rattle.fraction128.proofs.QuotientLaws.{divided-value}
use Rattle.fraction128.proofs.RatioLaws.{added-value}
use Rattle.fraction128.proofs.Signs.{same_cancel}
use Rattle.fraction128.proofs.Whole.{parts, ring, same_dif}

-- The middle by the formula is what the call answers, and what it means.

-- the middle: w is the sum s over t, and z is w divided by 2
pub middle_is : (s t wn wd zn zd : ℤ) → pos 0 <ℤ wd → wn *ℤ t ≡ s *ℤ wd → wn *ℤ zd ≡ zn *ℤ pos 2 *ℤ wd → pos 2 *ℤ zn *ℤ t ≡ s *ℤ zd
middle_is s t wn wd zn zd above sum half = same_cancel _ _ wd above (left ∙ ap (λ (n : ℤ). n *ℤ t) (sym half) ∙ turned ∙ ap (λ (n : ℤ). n *ℤ zd) sum ∙ right)
  where
    left : pos 2 *ℤ zn *ℤ t *ℤ wd ≡ zn *ℤ pos 2 *ℤ wd *ℤ t
    left = rw (parts zn, parts t, parts wd) (simp ring (same_dif _ _ _ _ (omega arith)))

    turned : wn *ℤ zd *ℤ t ≡ wn *ℤ t *ℤ zd
    turned = rw (parts wn, parts zd, parts t) (simp ring (same_dif _ _ _ _ (omega arith)))

    right : s *ℤ wd *ℤ zd ≡ s *ℤ zd *ℤ wd
    right = rw (parts s, parts wd, parts zd) (simp ring (same_dif _ _ _ _ (omega arith)))

pub two_apart : pos 2 ≢ pos 0
two_apart same = omega (arith, ints)

-- the middle by the formula is half of the sum, over a positive denominator
pub middle-value : (x y z : Ratio) → pos 0 <ℤ x.denominator → pos 0 <ℤ y.denominator → middle x y ≡ Some z
    → (pos 2 *ℤ z.numerator *ℤ (x.denominator *ℤ y.denominator) ≡ (x.numerator *ℤ y.denominator +ℤ y.numerator *ℤ x.denominator) *ℤ z.denominator)
    × (pos 0 <ℤ z.denominator)
middle-value x y z x_above y_above e = by (added x y) (added-value x y) e
  where
    by : (o : Option Ratio)
        → ((s : Ratio) → pos 0 <ℤ x.denominator → pos 0 <ℤ y.denominator → o ≡ Some s
        → (s.numerator *ℤ (x.denominator *ℤ y.denominator) ≡ (x.numerator *ℤ y.denominator +ℤ y.numerator *ℤ x.denominator) *ℤ s.denominator)
        × (pos 0 <ℤ s.denominator))
        → (o >>? (λ sum. divided sum (pos 2))) ≡ Some z
        → (pos 2 *ℤ z.numerator *ℤ (x.denominator *ℤ y.denominator) ≡ (x.numerator *ℤ y.denominator +ℤ y.numerator *ℤ x.denominator) *ℤ z.denominator)
        × (pos 0 <ℤ z.denominator)
    by None sum h = absurd (cc)
    by (Some s) sum h =
        let (whole, s_above) = sum s x_above y_above (λ i. Some s) in
        let (half, z_above) = divided-value s (pos 2) z s_above two_apart h in
        (middle_is _ _ s.numerator s.denominator z.numerator z.denominator s_above whole half, z_above)

-- what is answered for the half of a sum is the middle
pub half-answered : {E : Type 0} (x y w : Fraction) (r : Result Fraction E) → Some (ratio_of w) ≡ added (ratio_of x) (ratio_of y) → answered r
    ≡ divided (ratio_of w) (pos 2)
    → answered r ≡ middle (ratio_of x) (ratio_of y)
half-answered x y w r sum half = half ∙ ap (λ (o : Option Ratio). (o >>? (λ s. divided s (pos 2)))) sum

-- and where there is no sum there is no middle
pub refused-answered : {E : Type 0} (x y : Ratio) (r : Result Fraction E) → IsErr r → None ≡ added x y → answered r ≡ middle x y
refused-answered x y (Ok z) refused none = absurd (cc)
refused-answered x y (Err e) refused none = ap (λ (o : Option Ratio). (o >>? (λ s. divided s (pos 2)))) none
