use Rattle.std.proofs.Common.{◌≡◌, ℤ, pos, ◌<ℤ◌, ◌+ℤ◌, ◌*ℤ◌, unsigned_abs, sym, ap, ◌∙◌, arith}
use Rattle.std.specs.Ordering.{int_cmp}
use Rattle.std.specs.Int.{IsGcd}
use Rattle.std.proofs.lemmas.Int.{ints, unsigned_abs-mul}
use Rattle.std.proofs.Math.Nat.{one-dvd}
use Rattle.fraction128.specs.Arithmetic.{IsSum, IsProduct, IsQuotient}
use Rattle.fraction128.specs.declared.fraction.Fraction.{Fraction}
use Rattle.fraction128.proofs.LowestLaws.{fraction_unique, lowest_terms_unique}
use Rattle.fraction128.proofs.OrderLaws.{int_cmp-same}
use Rattle.fraction128.proofs.Signs.{above-*, positive_size, same_cancel, below-*, below_cancel}
use Rattle.fraction128.proofs.Whole.{parts, ring, same_dif, assoc, swap_last}

-- Fractions as whole numbers over one denominator.

-- x is a over d
abbrev pub IsOver : Fraction → ℤ → ℤ → Type 0
IsOver x a d = x.numerator *ℤ d ≡ a *ℤ x.denominator

-- a fraction over a multiple of the denominator
pub IsOver-scaled : (x : Fraction) (a d k : ℤ) → IsOver x a d → IsOver x (a *ℤ k) (d *ℤ k)
IsOver-scaled x a d k h = sym (assoc x.numerator d k) ∙ ap (λ (n : ℤ). n *ℤ k) h ∙ swap_last a x.denominator k

-- the number over a denominator is the only one
pub IsOver-number : (x : Fraction) (a b d : ℤ) → IsOver x a d → IsOver x b d → a ≡ b
IsOver-number x a b d p q = same_cancel a b x.denominator x.positive (sym p ∙ q)

-- and the fraction is the only one
pub IsOver-unique : (x y : Fraction) (a d : ℤ) → pos 0 <ℤ d → IsOver x a d → IsOver y a d → (x.numerator ≡ y.numerator) × (x.denominator ≡ y.denominator)
IsOver-unique x y a d above p q =
    fraction_unique x y (same_cancel (x.numerator *ℤ y.denominator) (y.numerator *ℤ x.denominator) d above
    (swap_last x.numerator y.denominator d
    ∙ ap (λ (n : ℤ). n *ℤ y.denominator) p
    ∙ swap_last a x.denominator y.denominator
    ∙ ap (λ (n : ℤ). n *ℤ x.denominator) (sym q)
    ∙ swap_last y.numerator d x.denominator))

-- the order of two fractions is that of their numbers over one denominator
pub IsOver-order : (x y : Fraction) (a b d : ℤ) → pos 0 <ℤ d → IsOver x a d → IsOver y b d
    → int_cmp (x.numerator *ℤ y.denominator) (y.numerator *ℤ x.denominator) ≡ int_cmp a b
IsOver-order x y a b d above p q =
    let t = x.denominator *ℤ y.denominator in
    let t_above = above-* x.denominator y.denominator x.positive y.positive in
    sym (int_cmp-same a b (x.numerator *ℤ y.denominator) (y.numerator *ℤ x.denominator)
    (λ h. below_cancel _ _ d above (rw (first, second) (below-* a b t t_above h)))
    (λ h. same_cancel _ _ d above (first ∙ ap (λ (n : ℤ). n *ℤ t) h ∙ sym second))
    (λ h. below_cancel _ _ d above (rw (first, second) (below-* b a t t_above h))))
  where
    first : x.numerator *ℤ y.denominator *ℤ d ≡ a *ℤ (x.denominator *ℤ y.denominator)
    first =
        swap_last x.numerator y.denominator d
        ∙ ap (λ (n : ℤ). n *ℤ y.denominator) p
        ∙ assoc a x.denominator y.denominator

    second : y.numerator *ℤ x.denominator *ℤ d ≡ b *ℤ (x.denominator *ℤ y.denominator)
    second =
        swap_last y.numerator x.denominator d
        ∙ ap (λ (n : ℤ). n *ℤ x.denominator) q
        ∙ swap_last b y.denominator x.denominator
        ∙ assoc b x.denominator y.denominator

-- ---- sums and products

-- the sum of a/d and b/d, which are xn/xd and yn/yd, over d
pub over_sum : (xn xd yn yd zn zd a b d : ℤ) → pos 0 <ℤ xd → pos 0 <ℤ yd → xn *ℤ d ≡ a *ℤ xd → yn *ℤ d ≡ b *ℤ yd
    → zn *ℤ (xd *ℤ yd) ≡ (xn *ℤ yd +ℤ yn *ℤ xd) *ℤ zd → zn *ℤ d ≡ (a +ℤ b) *ℤ zd
over_sum xn xd yn yd zn zd a b d xd_above yd_above p q sum =
    same_cancel (zn *ℤ d) ((a +ℤ b) *ℤ zd) (xd *ℤ yd) (above-* xd yd xd_above yd_above)
    (swap_last zn d (xd *ℤ yd)
    ∙ ap (λ (n : ℤ). n *ℤ d) sum
    ∙ opened xn yd yn xd zd d
    ∙ ap (λ (n : ℤ). n *ℤ yd *ℤ zd +ℤ yn *ℤ d *ℤ xd *ℤ zd) p
    ∙ ap (λ (n : ℤ). a *ℤ xd *ℤ yd *ℤ zd +ℤ n *ℤ xd *ℤ zd) q
    ∙ closed a b xd yd zd)
  where
    opened : (xn yd yn xd zd d : ℤ) → (xn *ℤ yd +ℤ yn *ℤ xd) *ℤ zd *ℤ d ≡ xn *ℤ d *ℤ yd *ℤ zd +ℤ yn *ℤ d *ℤ xd *ℤ zd
    opened xn yd yn xd zd d = rw (parts xn, parts yd, parts yn, parts xd, parts zd, parts d) (simp ring (same_dif _ _ _ _ (omega arith)))

    closed : (a b xd yd zd : ℤ) → a *ℤ xd *ℤ yd *ℤ zd +ℤ b *ℤ yd *ℤ xd *ℤ zd ≡ (a +ℤ b) *ℤ zd *ℤ (xd *ℤ yd)
    closed a b xd yd zd = rw (parts a, parts b, parts xd, parts yd, parts zd) (simp ring (same_dif _ _ _ _ (omega arith)))

-- k times a/d, which is xn/xd, over d
pub over_product : (xn xd zn zd a d k : ℤ) → pos 0 <ℤ xd → xn *ℤ d ≡ a *ℤ xd → zn *ℤ xd ≡ xn *ℤ k *ℤ zd → zn *ℤ d ≡ a *ℤ k *ℤ zd
over_product xn xd zn zd a d k xd_above p product =
    same_cancel (zn *ℤ d) (a *ℤ k *ℤ zd) xd xd_above
    (swap_last zn d xd
    ∙ ap (λ (n : ℤ). n *ℤ d) product
    ∙ opened xn k zd d
    ∙ ap (λ (n : ℤ). n *ℤ k *ℤ zd) p
    ∙ closed a xd k zd)
  where
    opened : (xn k zd d : ℤ) → xn *ℤ k *ℤ zd *ℤ d ≡ xn *ℤ d *ℤ k *ℤ zd
    opened xn k zd d = rw (parts xn, parts k, parts zd, parts d) (simp ring (same_dif _ _ _ _ (omega arith)))

    closed : (a xd k zd : ℤ) → a *ℤ xd *ℤ k *ℤ zd ≡ a *ℤ k *ℤ zd *ℤ xd
    closed a xd k zd = rw (parts a, parts xd, parts k, parts zd) (simp ring (same_dif _ _ _ _ (omega arith)))

-- the sum, over the denominator of both
pub IsOver-sum : (x y z : Fraction) (a b d : ℤ) → IsOver x a d → IsOver y b d → IsSum x y z → IsOver z (a +ℤ b) d
IsOver-sum x y z a b d p q sum =
    over_sum x.numerator x.denominator y.numerator y.denominator z.numerator z.denominator a b d x.positive y.positive p q sum

-- k times a fraction
pub IsOver-product : (x z : Fraction) (a d k : ℤ) → IsOver x a d → IsProduct x k z → IsOver z (a *ℤ k) d
IsOver-product x z a d k p product =
    over_product x.numerator x.denominator z.numerator z.denominator a d k x.positive p product

-- a fraction divided by k, over k times the denominator
pub IsOver-quotient : (x z : Fraction) (a d k : ℤ) → IsOver x a d → IsQuotient x k z → IsOver z a (d *ℤ k)
IsOver-quotient x z a d k p quotient =
    same_cancel (z.numerator *ℤ (d *ℤ k)) (a *ℤ z.denominator) x.denominator x.positive
    (opened z.numerator d k x.denominator
    ∙ ap (λ (n : ℤ). n *ℤ d) (sym quotient)
    ∙ swap_last x.numerator z.denominator d
    ∙ ap (λ (n : ℤ). n *ℤ z.denominator) p
    ∙ swap_last a x.denominator z.denominator)
  where
    opened : (zn d k xd : ℤ) → zn *ℤ (d *ℤ k) *ℤ xd ≡ zn *ℤ k *ℤ xd *ℤ d
    opened zn d k xd = rw (parts zn, parts d, parts k, parts xd) (simp ring (same_dif _ _ _ _ (omega arith)))

-- ---- whole numbers

-- a fraction that is n over 1 has these numbers
pub whole_is : (x : Fraction) (n : ℤ) → x.numerator *ℤ pos 1 ≡ n *ℤ x.denominator → (x.numerator ≡ n) × (x.denominator ≡ pos 1)
whole_is x n h =
    let same = lowest_terms_unique (unsigned_abs x.numerator) (unsigned_abs x.denominator) (unsigned_abs n) 1 (omega arith) x.reduced
    (dvd-one_sizes) (sym (unsigned_abs-mul x.numerator (pos 1)) ∙ ap unsigned_abs h ∙ unsigned_abs-mul n x.denominator) in
    let denominator : x.denominator ≡ pos 1 = sym (positive_size x.denominator x.positive) ∙ ap pos same.1 in
    (same_cancel x.numerator n (pos 1) (omega (arith, ints)) (h ∙ ap (λ (d : ℤ). n *ℤ d) denominator), denominator)
  where
    dvd-one_sizes : IsGcd (unsigned_abs n) 1 1
    dvd-one_sizes = (one-dvd (unsigned_abs n), one-dvd 1, λ d p q. q)
