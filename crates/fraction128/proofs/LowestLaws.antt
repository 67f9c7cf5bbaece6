use Rattle.std.proofs.Common.{◌≡◌, ℕ, zero, suc, ◌<◌, ◌+◌, ◌*◌, ◌/◌, ◌%◌, pos, ◌<ℤ◌, ◌*ℤ◌, unsigned_abs, ℤ, sym, ap, subst, ◌∙◌, arith}
use Rattle.std.specs.Int.{IsGcd, ◌∣◌}
use Rattle.std.proofs.lemmas.Int.{unsigned_abs-mul}
use Rattle.std.proofs.lemmas.Nat.{div-add-mod', mod-mul-add}
use Rattle.std.proofs.lemmas.Nat.Gcd.{IsGcd-from_zero, IsGcd-from_mod, IsGcd-swap, dvd-zero, dvd_trans, dvd_antisymm}
use Rattle.std.proofs.Math.Nat.{dvd-mul_left, dvd-mul_right, eq_of_mul-eq-mul_right, mod-lt, mul-le-mul_right, zero-mul, one-mul, one-dvd}
use mathlib.Core.HLevel.{is_prop→PathP}
use Rattle.std.proofs.Props.{props}
use Rattle.fraction128.specs.declared.fraction.Fraction.{Fraction}
use Rattle.fraction128.specs.Divisor.{gcd_within, gcd}
use Rattle.fraction128.specs.Range.{InRange}
use Rattle.fraction128.proofs.DivisorLaws.{gcd-from_IsGcd, unsigned_abs-above}
use Rattle.fraction128.proofs.Signs.{positive_size, same_cancel}

-- Lowest terms are unique.

-- a remainder of two multiples of c is c times the remainder
rest-scaled : (a b c : ℕ) → 0 < b → 0 < c → (a * c) % (b * c) ≡ a % b * c
rest-scaled a b c p q =
    let split : a * c ≡ a / b * (b * c) + a % b * c = omega (arith, ap (λ n. n * c) (div-add-mod' a b)) in
    let below : a % b * c < b * c = omega (arith, mul-le-mul_right {m = suc (a % b)} {n = b} c (mod-lt a p)) in
    ap (λ n. n % (b * c)) split ∙ mod-mul-add (a / b) (b * c) (a % b * c) below

-- what two numbers have in common is multiplied as they are
IsGcd-scaled : (steps a b c : ℕ) → b < steps → 0 < c → IsGcd (a * c) (b * c) (gcd_within steps a b * c)
IsGcd-scaled zero a b c h p = absurd (omega arith)
IsGcd-scaled (suc steps) a zero c h p = IsGcd-from_zero (a * c) (zero * c) (zero-mul c)
IsGcd-scaled (suc steps) a (suc b) c h p =
    IsGcd-from_mod (a * c) (suc b * c) _
    (rw (rest-scaled a (suc b) c (omega arith) p) (IsGcd-scaled steps (suc b) (a % suc b) c (omega arith) p))

-- a number that divides a product, and has nothing in common with one factor, divides the other
pub coprime-divides : (a b c : ℕ) → IsGcd a b 1 → a ∣ b * c → a ∣ c
unfolding gcd
coprime-divides a b zero is h = dvd-zero a
coprime-divides a b (suc c) is h =
    let one : 1 ≡ gcd_within (suc b) a b = gcd-from_IsGcd a b 1 is in
    let scaled = IsGcd-scaled (suc b) a b (suc c) (omega arith) (omega arith) in
    subst (λ n. a ∣ n) (ap (λ n. n * suc c) (sym one) ∙ one-mul (suc c)) (scaled.2 a (dvd-mul_right a (suc c)) h)

-- a divisor of a number has nothing in common with another where the number has not
pub coprime-divisor : (a b c : ℕ) → IsGcd a b 1 → c ∣ a → IsGcd c b 1
coprime-divisor a b c is h = (one-dvd c, one-dvd b, λ d p q. is.2 d (dvd_trans d p h) q)

-- two numbers that have nothing in common with a third: neither has their product
pub coprime-product : (a c b : ℕ) → IsGcd a b 1 → IsGcd c b 1 → IsGcd (a * c) b 1
coprime-product a c b first second = (
  one-dvd (a * c),
  one-dvd b,
  λ d p q.
      let apart : IsGcd d a 1 = coprime-divisor b a d (IsGcd-swap a b 1 first) q in
      second.2 d (coprime-divides d a c apart p) q,
)

-- two pairs without a common divisor that have the same ratio are the same
pub lowest_terms_unique : (a b c d : ℕ) → 0 < d → IsGcd a b 1 → IsGcd c d 1 → a * d ≡ c * b → (a ≡ c) × (b ≡ d)
lowest_terms_unique a b c d above first second e =
    let there : b ∣ d = coprime-divides b a d (IsGcd-swap a b 1 first) (subst (λ n. b ∣ n) (sym e) (dvd-mul_left b c)) in
    let back : d ∣ b = coprime-divides d c b (IsGcd-swap c d 1 second) (subst (λ n. d ∣ n) e (dvd-mul_left d a)) in
    let same : b ≡ d = dvd_antisymm there back in
    (eq_of_mul-eq-mul_right d above a c (e ∙ ap (λ n. c * n) same), same)

-- and so of whole numbers over positive ones
pub lowest_unique : (a b c d : ℤ) → pos 0 <ℤ b → pos 0 <ℤ d → IsGcd (unsigned_abs a) (unsigned_abs b) 1 → IsGcd (unsigned_abs c) (unsigned_abs d) 1 → a *ℤ d
    ≡ c *ℤ b → (a ≡ c) × (b ≡ d)
lowest_unique a b c d b_above d_above first second e =
    let sizes = sym (unsigned_abs-mul a d) ∙ ap unsigned_abs e ∙ unsigned_abs-mul c b in
    let same =
    lowest_terms_unique (unsigned_abs a) (unsigned_abs b) (unsigned_abs c) (unsigned_abs d) (unsigned_abs-above d d_above) first second sizes in
    let denominators : b ≡ d = sym (positive_size b b_above) ∙ ap pos same.1 ∙ positive_size d d_above in
    (same_cancel a c d d_above (e ∙ ap (λ n. c *ℤ n) denominators), denominators)

-- two fractions of the same value have the same numbers
pub fraction_unique : (x y : Fraction) → x.numerator *ℤ y.denominator ≡ y.numerator *ℤ x.denominator → (x.numerator ≡ y.numerator)
    × (x.denominator ≡ y.denominator)
fraction_unique x y e =
    lowest_unique x.numerator x.denominator y.numerator y.denominator x.positive y.positive x.reduced y.reduced e

-- two fractions with the same numbers are the same
pub Fraction-same : (x y : Fraction) → x.numerator ≡ y.numerator → x.denominator ≡ y.denominator → x ≡ y
Fraction-same x y p q = λ i. record {
  numerator = p i;
  denominator = q i;
  positive = is_prop→PathP (λ j. pos 0 <ℤ q j) (λ j. Prim.hlevel props) x.positive y.positive i;
  numerator_in_range = is_prop→PathP (λ j. InRange (p j)) (λ j. Prim.hlevel props) x.numerator_in_range y.numerator_in_range i;
  denominator_in_range = is_prop→PathP (λ j. InRange (q j)) (λ j. Prim.hlevel props) x.denominator_in_range y.denominator_in_range i;
  reduced = is_prop→PathP (λ j. IsGcd (unsigned_abs (p j)) (unsigned_abs (q j)) 1) (λ j. Prim.hlevel props) x.reduced y.reduced i;
}
