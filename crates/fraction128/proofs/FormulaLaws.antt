use Rattle.std.proofs.Common.{◌≡◌, ◌≢◌, ℤ, pos, negsuc, ◌<ℤ◌, ◌*ℤ◌, ◌+ℤ◌, [], ◌∷◌, unsigned_abs, int_div, refl, sym, ap, subst, ◌∙◌, arith}
use Rattle.std.proofs.lemmas.Int.{ints, unsigned_abs-mul}
use Rattle.std.proofs.lemmas.Nat.Gcd.{IsGcd-swap}
use Rattle.std.specs.Int.{IsGcd}
use lib.IntN.{neg_ℤ}
use Rattle.fraction128.specs.Arithmetic.{sum_of_quotients, divided_numbers}
use Rattle.fraction128.specs.declared.fraction.Fraction.{Fraction}
use Rattle.fraction128.specs.Range.{InRange, AllInRange}
use Rattle.fraction128.specs.Divisor.{gcd, int_gcd}
use Rattle.fraction128.proofs.CofactorLaws.{above-apart, first-exact, second-exact, second-above, first-divides, second-divides, cofactors-coprime}
use Rattle.fraction128.proofs.CofactorLaws.{cofactors-cross}
use Rattle.fraction128.proofs.DivisorLaws.{unsigned_abs-int_div, quotient-in_range}
use Rattle.fraction128.proofs.LowestLaws.{coprime-product, coprime-divisor}
use Rattle.fraction128.proofs.Signs.{positive_size}
use Rattle.fraction128.proofs.Whole.{parts, ring, same_dif, assoc, swap_last}

-- From what the formulas compute to what it means. Everywhere zn over zd is the result.

-- the sum of a/b and c/d, of which b and d share the factor g
sum_of_parts : (a p c q g zn zd : ℤ) → zn *ℤ (p *ℤ (q *ℤ g)) ≡ (a *ℤ q +ℤ c *ℤ p) *ℤ zd → zn *ℤ (p *ℤ g *ℤ (q *ℤ g)) ≡ (a *ℤ (q *ℤ g) +ℤ c *ℤ (p *ℤ g)) *ℤ zd
sum_of_parts a p c q g zn zd h = left zn p q g ∙ ap (λ (n : ℤ). n *ℤ g) h ∙ right a p c q g zd
  where
    left : (zn p q g : ℤ) → zn *ℤ (p *ℤ g *ℤ (q *ℤ g)) ≡ zn *ℤ (p *ℤ (q *ℤ g)) *ℤ g
    left zn p q g = rw (parts zn, parts p, parts q, parts g) (simp ring (same_dif _ _ _ _ (omega arith)))

    right : (a p c q g zd : ℤ) → (a *ℤ q +ℤ c *ℤ p) *ℤ zd *ℤ g ≡ (a *ℤ (q *ℤ g) +ℤ c *ℤ (p *ℤ g)) *ℤ zd
    right a p c q g zd = rw (parts a, parts p, parts c, parts q, parts g, parts zd) (simp ring (same_dif _ _ _ _ (omega arith)))

-- the sum, by the parts p and q of the denominators
pub sum_is : (a b c d p q u v zn zd : ℤ) → p ≡ int_div b (int_gcd b d) → q ≡ int_div d (int_gcd b d) → u ≡ a *ℤ q +ℤ c *ℤ p → v ≡ p *ℤ d → zn *ℤ v ≡ u *ℤ zd
    → zn *ℤ (b *ℤ d) ≡ (a *ℤ d +ℤ c *ℤ b) *ℤ zd
sum_is a b c d p q u v zn zd e f u_is v_is h = with_divisor (int_gcd b d) (first-exact b d p q e f) (second-exact b d p q e f)
  where
    with_divisor : (g : ℤ) → p *ℤ g ≡ b → q *ℤ g ≡ d → zn *ℤ (b *ℤ d) ≡ (a *ℤ d +ℤ c *ℤ b) *ℤ zd
    with_divisor g i j = rw (← i, ← j) (sum_of_parts a p c q g zn zd (rw (j, ← u_is, ← v_is) h))

-- where the parts' products leave the range, so do the sum's numbers
pub sum_numerator_overflow : (a b c d p q : ℤ) → p ≡ int_div b (int_gcd b d) → q ≡ int_div d (int_gcd b d)
    → ¬ AllInRange ((a *ℤ q) ∷ (c *ℤ p) ∷ (a *ℤ q +ℤ c *ℤ p) ∷ []) → ¬ AllInRange (sum_of_quotients a b c d)
sum_numerator_overflow a b c d p q e f h all = h (rw (e, f) (all.0, (all.1.0, (all.1.1.0, tt))))

-- and where the product of the denominators does
pub sum_denominator_overflow : (a b c d p : ℤ) → p ≡ int_div b (int_gcd b d) → ¬ InRange (p *ℤ d) → ¬ AllInRange (sum_of_quotients a b c d)
sum_denominator_overflow a b c d p e h all = h (rw e all.1.1.1.0)

-- k times a/b
pub product_is : (a b k m p zn zd : ℤ) → m ≡ int_div k (int_gcd k b) → p ≡ int_div b (int_gcd k b) → zn ≡ a *ℤ m → zd ≡ p → zn *ℤ b ≡ a *ℤ k *ℤ zd
product_is a b k m p zn zd e f zn_is zd_is =
    rw (zn_is, zd_is) (assoc a m b ∙ ap (λ (n : ℤ). a *ℤ n) (cofactors-cross k b m p e f) ∙ sym (assoc a k p))

-- and it is in lowest terms
pub product-coprime : (a b k m p u : ℤ) → m ≡ int_div k (int_gcd k b) → p ≡ int_div b (int_gcd k b) → u ≡ a *ℤ m → pos 0 <ℤ b
    → IsGcd (unsigned_abs a) (unsigned_abs b) 1 → IsGcd (unsigned_abs u) (unsigned_abs p) 1
product-coprime a b k m p u e f u_is above is =
    rw (u_is, unsigned_abs-mul a m)
    (coprime-product (unsigned_abs a) (unsigned_abs m) (unsigned_abs p)
    (IsGcd-swap _ _ 1 (coprime-divisor (unsigned_abs b) (unsigned_abs a) (unsigned_abs p) (IsGcd-swap _ _ 1 is) (second-divides k b m p e f)))
    (cofactors-coprime k b m p e f (above-apart b above)))

-- a/b divided by a positive k, whose part is its own size
pub quotient_is : (a b k p q zn zd : ℤ) → p ≡ int_div a (int_gcd a k) → q ≡ int_div k (int_gcd a k) → pos 0 <ℤ k → zn ≡ p → zd ≡ b *ℤ pos (unsigned_abs q)
    → a *ℤ zd ≡ zn *ℤ k *ℤ b
quotient_is a b k p q zn zd e f above zn_is zd_is =
    rw (zn_is, zd_is, positive_size q (second-above a k p q e f above))
    (sym (assoc a b q) ∙ swap_last a b q ∙ ap (λ (n : ℤ). n *ℤ b) (sym (cofactors-cross a k p q e f)))

-- and by a negative k, whose part is the negative of its size
pub quotient_is_negative : (a b k p q zn zd : ℤ) → p ≡ int_div a (int_gcd a k) → q ≡ int_div k (int_gcd a k) → k <ℤ pos 0 → zn ≡ neg_ℤ p → zd
    ≡ b *ℤ pos (unsigned_abs q) → a *ℤ zd ≡ zn *ℤ k *ℤ b
quotient_is_negative a b k p q zn zd e f below zn_is zd_is =
    rw (zn_is, zd_is, sized q (second-exact a k p q e f)) (turned a q ∙ ap neg_ℤ (ap (λ (n : ℤ). n *ℤ b) (sym (cofactors-cross a k p q e f))) ∙ back p k)
  where
    sized : (q : ℤ) → q *ℤ int_gcd a k ≡ k → pos (unsigned_abs q) ≡ neg_ℤ q
    sized (pos n) h = absurd (omega (arith, ints))
    sized (negsuc n) h = refl

    turned : (a q : ℤ) → a *ℤ (b *ℤ neg_ℤ q) ≡ neg_ℤ (a *ℤ q *ℤ b)
    turned a q = rw (parts a, parts b, parts q) (simp ring (same_dif _ _ _ _ (omega arith)))

    back : (p k : ℤ) → neg_ℤ (p *ℤ k *ℤ b) ≡ neg_ℤ p *ℤ k *ℤ b
    back p k = rw (parts p, parts k, parts b) (simp ring (same_dif _ _ _ _ (omega arith)))

-- and it is in lowest terms
pub quotient-coprime : (a b k p q v : ℤ) → p ≡ int_div a (int_gcd a k) → q ≡ int_div k (int_gcd a k) → v ≡ b *ℤ pos (unsigned_abs q) → k ≢ pos 0
    → IsGcd (unsigned_abs a) (unsigned_abs b) 1 → IsGcd (unsigned_abs p) (unsigned_abs v) 1
quotient-coprime a b k p q v e f v_is apart is =
    rw (v_is, unsigned_abs-mul b (pos (unsigned_abs q)))
    (IsGcd-swap _ _ 1 (coprime-product (unsigned_abs b) (unsigned_abs q) (unsigned_abs p)
    (IsGcd-swap _ _ 1 (coprime-divisor (unsigned_abs a) (unsigned_abs b) (unsigned_abs p) is (first-divides a k p q e f)))
    (IsGcd-swap _ _ 1 (cofactors-coprime a k p q e f apart))))

-- a/b - c/d: what the sum with the negative gives is what c/d is to be added to
pub difference_is : (a b c d n e zn zd : ℤ) → n ≡ neg_ℤ c → e ≡ d → zn *ℤ (b *ℤ e) ≡ (a *ℤ e +ℤ n *ℤ b) *ℤ zd → a *ℤ (zd *ℤ d) ≡ (zn *ℤ d +ℤ c *ℤ zd) *ℤ b
difference_is a b c d n e zn zd n_is e_is h = left ∙ ap (λ (n : ℤ). n +ℤ c *ℤ zd *ℤ b) (sym (rw (n_is, e_is) at h)) ∙ right
  where
    left : a *ℤ (zd *ℤ d) ≡ (a *ℤ d +ℤ neg_ℤ c *ℤ b) *ℤ zd +ℤ c *ℤ zd *ℤ b
    left = rw (parts a, parts b, parts c, parts d, parts zd) (simp ring (same_dif _ _ _ _ (omega arith)))

    right : zn *ℤ (b *ℤ d) +ℤ c *ℤ zd *ℤ b ≡ (zn *ℤ d +ℤ c *ℤ zd) *ℤ b
    right = rw (parts zn, parts b, parts c, parts d, parts zd) (simp ring (same_dif _ _ _ _ (omega arith)))

-- ---- fits and overflows

-- the size of k's part is the part of k's size
pub part_size : (a k q : ℤ) → q ≡ int_div k (int_gcd a k) → pos (unsigned_abs q) ≡ int_div (pos (unsigned_abs k)) (int_gcd a k)
part_size a k q e = ap (λ (z : ℤ). pos (unsigned_abs z)) e ∙ ap pos (unsigned_abs-int_div k (gcd (unsigned_abs a) (unsigned_abs k)))

-- the numbers of a quotient are in range where its denominator is
pub quotient_in_range : (x : Fraction) (k q size : ℤ) → q ≡ int_div k (int_gcd x.numerator k) → size ≡ pos (unsigned_abs q) → InRange (x.denominator *ℤ size)
    → AllInRange (divided_numbers x k)
quotient_in_range x k q size e size_is h = (
  subst (λ (n : ℤ). InRange (x.denominator *ℤ n)) (size_is ∙ part_size x.numerator k q e) h,
  (quotient-in_range x.numerator _ (gcd (unsigned_abs x.numerator) (unsigned_abs k)) refl x.numerator_in_range, tt),
)
