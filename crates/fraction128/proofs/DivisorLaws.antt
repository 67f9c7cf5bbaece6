use Rattle.std.proofs.Common.{◌≡◌, ℕ, zero, suc, ◌<◌, ◌*◌, ◌/◌, ◌%◌, ℤ, pos, negsuc, ◌<ℤ◌, ◌*ℤ◌, unsigned_abs, int_div, refl, sym, ap, ◌∙◌, subst, arith}
use lib.IntN.{neg_ℤ}
use Rattle.std.specs.Int.{IsGcd, ◌∣◌}
use Rattle.std.proofs.lemmas.Int.{ints, unsigned_abs-mul}
use Rattle.std.proofs.lemmas.Nat.Gcd.{IsGcd-from_zero, IsGcd-from_mod, same_from_IsGcd, le_of_dvd}
use Rattle.std.proofs.Math.Nat.{div-le_self, mul-div_cancel', mul-dvd-mul_left, dvd_of_mul-dvd-mul_left, mul-one, one-dvd, dvd-mul_right}
use Rattle.fraction128.specs.Range.{InRange}
use Rattle.fraction128.specs.Divisor.{gcd_within, gcd}
use Rattle.fraction128.proofs.Whole.{parts, ring, same_dif}

-- ---- the greatest common divisor

-- with enough steps, Euclid's remainders end at the greatest common divisor
IsGcd-gcd_within : (steps a b : ℕ) → b < steps → IsGcd a b (gcd_within steps a b)
IsGcd-gcd_within zero a b h = absurd (omega arith)
IsGcd-gcd_within (suc steps) a zero h = IsGcd-from_zero a 0 refl
IsGcd-gcd_within (suc steps) a (suc b) h =
    IsGcd-from_mod a (suc b) _ (IsGcd-gcd_within steps (suc b) (a % suc b) (omega arith))

-- `gcd` is the greatest common divisor
pub IsGcd-gcd : (a b : ℕ) → IsGcd a b (gcd a b)
unfolding gcd
IsGcd-gcd a b = IsGcd-gcd_within (suc b) a b (omega arith)

-- and there is only one
pub gcd-from_IsGcd : (a b g : ℕ) → IsGcd a b g → g ≡ gcd a b
gcd-from_IsGcd a b g h = same_from_IsGcd a b g (gcd a b) h (IsGcd-gcd a b)

-- a bound on both numbers is one on their greatest common divisor
pub gcd-below : (a b m : ℕ) → a < m → b < m → gcd a b < m
gcd-below zero zero m p q = rw (sym (gcd-from_IsGcd zero zero zero (IsGcd-from_zero zero zero refl))) p
gcd-below (suc a) b m p q = omega (arith, le_of_dvd {m = gcd (suc a) b} {n = suc a} (omega arith) (IsGcd-gcd (suc a) b).0)
gcd-below zero (suc b) m p q = omega (arith, le_of_dvd {m = gcd zero (suc b)} {n = suc b} (omega arith) (IsGcd-gcd zero (suc b)).1)

-- where the second number is not 0, neither is the divisor
pub gcd-above : (a b : ℕ) → 0 < b → 0 < gcd a b
gcd-above a b h = divisor_above (gcd a b) (IsGcd-gcd a b).1
  where
    divisor_above : (g : ℕ) → g ∣ b → 0 < g
    divisor_above zero d = omega (arith, mul-div_cancel' zero d)
    divisor_above (suc g) d = omega arith

-- the quotients by the greatest common divisor have none but 1
pub IsGcd-quotients : (a b g : ℕ) → 0 < g → IsGcd a b g → IsGcd (a / g) (b / g) 1
IsGcd-quotients a b g h (first, second, greatest) = (
  one-dvd (a / g),
  one-dvd (b / g),
  λ d p q.
      dvd_of_mul-dvd-mul_left {k = g} d {n = 1} h (rw (mul-one g) (greatest (g * d)
      (subst (λ n. (g * d) ∣ n) (mul-div_cancel' g first) (mul-dvd-mul_left d g p))
      (subst (λ n. (g * d) ∣ n) (mul-div_cancel' g second) (mul-dvd-mul_left d g q)))),
)

-- ---- division by a divisor

-- a positive number has a size
pub unsigned_abs-above : (z : ℤ) → pos 0 <ℤ z → 0 < unsigned_abs z
unsigned_abs-above (pos zero) h = absurd h.lt
unsigned_abs-above (pos (suc n)) h = omega arith
unsigned_abs-above (negsuc n) h = absurd h.lt

-- a quotient's size is the quotient of the sizes
pub unsigned_abs-int_div : (z : ℤ) (g : ℕ) → unsigned_abs (int_div z (pos g)) ≡ unsigned_abs z / g
unsigned_abs-int_div (pos n) g = refl
unsigned_abs-int_div (negsuc n) g = size (suc n / g)
  where
    size : (q : ℕ) → unsigned_abs (neg_ℤ (pos q)) ≡ q
    size zero = refl
    size (suc q) = refl

-- a number is the product of a divisor and the quotient q by it
pub quotient-exact : (z q : ℤ) (g : ℕ) → q ≡ int_div z (pos g) → g ∣ unsigned_abs z → q *ℤ pos g ≡ z
quotient-exact z q g e d = rw e (exact z d)
  where
    exact : (z : ℤ) → g ∣ unsigned_abs z → int_div z (pos g) *ℤ pos g ≡ z
    exact (pos n) d = simp ring (same_dif _ _ _ _ (omega (arith, mul-div_cancel' g d)))
    exact (negsuc n) d = simp ring (same_dif _ _ _ _ (omega (arith, mul-div_cancel' g d)))

-- and the quotient divides it
pub quotient-divides : (z q : ℤ) (g : ℕ) → q ≡ int_div z (pos g) → g ∣ unsigned_abs z → unsigned_abs q ∣ unsigned_abs z
quotient-divides z q g e d =
    subst (λ n. unsigned_abs q ∣ n) (sym (unsigned_abs-mul q (pos g)) ∙ ap unsigned_abs (quotient-exact z q g e d)) (dvd-mul_right (unsigned_abs q) g)

-- the quotient of a number in range is in range
pub quotient-in_range : (z q : ℤ) (g : ℕ) → q ≡ int_div z (pos g) → InRange z → InRange q
quotient-in_range z q g e h = rw e (omega (arith, unsigned_abs-int_div z g, div-le_self (unsigned_abs z) g))

-- the quotient of a positive number by its divisor is positive
pub quotient-above : (z q : ℤ) (g : ℕ) → q ≡ int_div z (pos g) → g ∣ unsigned_abs z → pos 0 <ℤ z → pos 0 <ℤ q
quotient-above z q g e d h = at_sign z q (quotient-exact z q g e d) h
  where
    at_sign : (z q : ℤ) → q *ℤ pos g ≡ z → pos 0 <ℤ z → pos 0 <ℤ q
    at_sign z (pos zero) e h = absurd (omega (arith, ints))
    at_sign z (pos (suc n)) e h = omega (arith, ints)
    at_sign z (negsuc n) e h = omega (arith, ints)

-- the quotients by the greatest common divisor have none but 1
pub quotients-coprime : (a b p q : ℤ) (g : ℕ) → p ≡ int_div a (pos g) → q ≡ int_div b (pos g) → 0 < g → IsGcd (unsigned_abs a) (unsigned_abs b) g
    → IsGcd (unsigned_abs p) (unsigned_abs q) 1
quotients-coprime a b p q g e f h is =
    rw (e, f, unsigned_abs-int_div a g, unsigned_abs-int_div b g) (IsGcd-quotients _ _ g h is)

-- two numbers and their quotients by a common divisor have the same cross products
pub quotients-cross : (a b p q : ℤ) (g : ℕ) → p ≡ int_div a (pos g) → q ≡ int_div b (pos g) → g ∣ unsigned_abs a → g ∣ unsigned_abs b → p *ℤ b ≡ a *ℤ q
quotients-cross a b p q g e f first second = cross p q (pos g) a b (quotient-exact a p g e first) (quotient-exact b q g f second)
  where
    cross : (x y k u v : ℤ) → x *ℤ k ≡ u → y *ℤ k ≡ v → x *ℤ v ≡ u *ℤ y
    cross x y k u v p q = rw (← p, ← q) (rw (parts x, parts y, parts k) (simp ring (same_dif _ _ _ _ (omega arith))))

-- 1 has no common divisor with any number but 1
pub IsGcd-one : (a : ℕ) → IsGcd a 1 1
IsGcd-one a = (one-dvd a, one-dvd 1, λ d p q. q)
