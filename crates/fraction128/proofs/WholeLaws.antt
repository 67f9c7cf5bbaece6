use Rattle.std.proofs.Common.{◌≡◌, ℕ, ℤ, pos, ◌+ℤ◌, ◌*ℤ◌, List, [], ◌∷◌, unsigned_abs, int_div, refl, sym, ap, subst, ◌∙◌, arith}
use Rattle.std.proofs.Math.Nat.{one-dvd}
use Rattle.fraction128.specs.Arithmetic.{sum_of_quotients}
use Rattle.fraction128.specs.Divisor.{gcd, int_gcd}
use Rattle.fraction128.specs.Range.{InRange, AllInRange}
use Rattle.fraction128.proofs.DivisorLaws.{IsGcd-one, gcd-from_IsGcd, quotient-exact}
use Rattle.fraction128.proofs.Whole.{parts, ring, same_dif}

-- Sums and products of whole numbers, which are fractions over 1.

gcd-one : (n : ℕ) → gcd n 1 ≡ 1
gcd-one n = sym (gcd-from_IsGcd n 1 1 (IsGcd-one n))

times-one : (z : ℤ) → z *ℤ pos 1 ≡ z
times-one z = rw (parts z) (simp ring (same_dif _ _ _ _ (omega arith)))

int_div-one : (z : ℤ) → int_div z (pos 1) ≡ z
int_div-one z = sym (times-one (int_div z (pos 1))) ∙ quotient-exact z (int_div z (pos 1)) 1 refl (one-dvd (unsigned_abs z))

-- a number divided by what it and 1 have in common
int_div-common : (z : ℤ) → int_div z (int_gcd z (pos 1)) ≡ z
int_div-common z = ap (λ g. int_div z (pos g)) (gcd-one (unsigned_abs z)) ∙ int_div-one z

-- 1 divided by what it and a number have in common
one-common : (z : ℤ) → int_div (pos 1) (int_gcd z (pos 1)) ≡ pos 1
one-common z = ap (λ g. int_div (pos 1) (pos g)) (gcd-one (unsigned_abs z))

-- ---- sums

abbrev numbers_by : ℤ → ℤ → ℤ → List ℤ
numbers_by a c k = (a *ℤ k) ∷ (c *ℤ k) ∷ (a *ℤ k +ℤ c *ℤ k) ∷ (k *ℤ pos 1) ∷ []

-- the numbers of the sum of a and c
sum-numbers : (a b c d : ℤ) → b ≡ pos 1 → d ≡ pos 1 → sum_of_quotients a b c d ≡ a ∷ c ∷ (a +ℤ c) ∷ pos 1 ∷ []
sum-numbers a b c d e f =
    ap (λ n. sum_of_quotients a n c d) e ∙ ap (λ n. sum_of_quotients a (pos 1) c n) f ∙ ap (λ n. numbers_by a c n) (one-common (pos 1))
    ∙ ap (λ n. n ∷ (c *ℤ pos 1) ∷ (n +ℤ c *ℤ pos 1) ∷ pos 1 ∷ []) (times-one a) ∙ ap (λ n. a ∷ n ∷ (a +ℤ n) ∷ pos 1 ∷ []) (times-one c)

-- it fits where the sum is in range
pub whole_sum-fits : (a b c d : ℤ) → b ≡ pos 1 → d ≡ pos 1 → InRange a → InRange c → InRange (a +ℤ c) → InRange b → AllInRange (sum_of_quotients a b c d)
whole_sum-fits a b c d e f first second sum one = subst AllInRange (sym (sum-numbers a b c d e f)) (first, (second, (sum, (subst InRange e one, tt))))

-- and not where it is not
pub whole_sum-overflows : (a b c d : ℤ) → b ≡ pos 1 → d ≡ pos 1 → ¬ InRange (a +ℤ c) → ¬ AllInRange (sum_of_quotients a b c d)
whole_sum-overflows a b c d e f out all = out (subst AllInRange (sum-numbers a b c d e f) all).1.1.0

-- ---- products

-- the numbers of k times a over b
abbrev product_of : ℤ → ℤ → ℤ → List ℤ
product_of a k b = (a *ℤ int_div k (int_gcd k b)) ∷ int_div b (int_gcd k b) ∷ []

product-numbers : (a k b : ℤ) → b ≡ pos 1 → product_of a k b ≡ (a *ℤ k) ∷ pos 1 ∷ []
product-numbers a k b e =
    ap (λ n. product_of a k n) e ∙ ap (λ n. (a *ℤ n) ∷ int_div (pos 1) (int_gcd k (pos 1)) ∷ []) (int_div-common k) ∙ ap (λ n. (a *ℤ k) ∷ n ∷ []) (one-common k)

-- it fits where the product is in range
pub whole_product-fits : (a k b : ℤ) → b ≡ pos 1 → InRange (a *ℤ k) → InRange b → AllInRange ((a *ℤ int_div k (int_gcd k b)) ∷ int_div b (int_gcd k b) ∷ [])
whole_product-fits a k b e product one = subst AllInRange (sym (product-numbers a k b e)) (product, (subst InRange e one, tt))

-- and not where it is not
pub whole_product-overflows : (a k b : ℤ) → b ≡ pos 1 → ¬ InRange (a *ℤ k) → ¬ AllInRange ((a *ℤ int_div k (int_gcd k b)) ∷ int_div b (int_gcd k b) ∷ [])
whole_product-overflows a k b e out all = out (subst AllInRange (product-numbers a k b e) all).0
