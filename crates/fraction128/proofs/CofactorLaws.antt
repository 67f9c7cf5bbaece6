use Rattle.std.proofs.Common.{◌≡◌, ◌≢◌, ℕ, zero, suc, ◌<◌, ℤ, pos, negsuc, ◌<ℤ◌, ◌*ℤ◌, unsigned_abs, int_div, refl, arith}
use Rattle.std.proofs.lemmas.Int.{ints}
use Rattle.std.specs.Int.{IsGcd, ◌∣◌}
use Rattle.fraction128.specs.Divisor.{gcd, int_gcd}
use Rattle.fraction128.specs.Range.{InRange}
use Rattle.fraction128.proofs.DivisorLaws.{IsGcd-gcd, gcd-above, quotient-exact, quotient-divides, quotient-above, quotient-in_range, quotients-coprime}
use Rattle.fraction128.proofs.DivisorLaws.{quotients-cross}

-- a number that is not 0 has a size
size-above : (b : ℤ) → b ≢ pos 0 → 0 < unsigned_abs b
size-above (pos zero) h = absurd (h refl)
size-above (pos (suc n)) h = omega arith
size-above (negsuc n) h = omega arith

-- a positive number is not 0
pub above-apart : (b : ℤ) → pos 0 <ℤ b → b ≢ pos 0
above-apart b h e = omega (arith, ints)

-- the greatest common divisor with a number that is not 0 is positive
pub common_divisor-above : (a b g : ℤ) → g ≡ int_gcd a b → b ≢ pos 0 → pos 0 <ℤ g
common_divisor-above a b g e h =
    rw e (above (gcd (unsigned_abs a) (unsigned_abs b)) (gcd-above (unsigned_abs a) (unsigned_abs b) (size-above b h)))
  where
    above : (n : ℕ) → 0 < n → pos 0 <ℤ pos n
    above n h = omega (arith, ints)

-- ---- two numbers a and b, and what is left of them when each is divided by their greatest common divisor
module _ (a b p q : ℤ) (first : p ≡ int_div a (int_gcd a b)) (second : q ≡ int_div b (int_gcd a b)) where
  greatest : IsGcd (unsigned_abs a) (unsigned_abs b) (gcd (unsigned_abs a) (unsigned_abs b))
  greatest = IsGcd-gcd (unsigned_abs a) (unsigned_abs b)

  -- the numbers are their parts times the divisor
  pub first-exact : p *ℤ int_gcd a b ≡ a
  first-exact = quotient-exact a p _ first greatest.0

  pub second-exact : q *ℤ int_gcd a b ≡ b
  second-exact = quotient-exact b q _ second greatest.1

  -- so the parts divide them
  pub first-divides : unsigned_abs p ∣ unsigned_abs a
  first-divides = quotient-divides a p _ first greatest.0

  pub second-divides : unsigned_abs q ∣ unsigned_abs b
  second-divides = quotient-divides b q _ second greatest.1

  -- the parts are in range where the numbers are
  pub first-in_range : InRange a → InRange p
  first-in_range h = quotient-in_range a p (gcd (unsigned_abs a) (unsigned_abs b)) first h

  pub second-in_range : InRange b → InRange q
  second-in_range h = quotient-in_range b q (gcd (unsigned_abs a) (unsigned_abs b)) second h

  -- and positive where the numbers are
  pub first-above : pos 0 <ℤ a → pos 0 <ℤ p
  first-above h = quotient-above a p _ first greatest.0 h

  pub second-above : pos 0 <ℤ b → pos 0 <ℤ q
  second-above h = quotient-above b q _ second greatest.1 h

  -- the part of a number that is not 0 has a size
  pub second-size_above : b ≢ pos 0 → pos 0 <ℤ pos (unsigned_abs q)
  second-size_above h = at_size q second-exact
    where
      at_size : (q : ℤ) → q *ℤ int_gcd a b ≡ b → pos 0 <ℤ pos (unsigned_abs q)
      at_size (pos zero) e = absurd (omega (arith, ints))
      at_size (pos (suc n)) e = omega (arith, ints)
      at_size (negsuc n) e = omega (arith, ints)

  -- the parts have no common divisor
  pub cofactors-coprime : b ≢ pos 0 → IsGcd (unsigned_abs p) (unsigned_abs q) 1
  cofactors-coprime h =
      quotients-coprime a b p q _ first second (gcd-above (unsigned_abs a) (unsigned_abs b) (size-above b h)) greatest

  -- and the same ratio as the numbers
  pub cofactors-cross : p *ℤ b ≡ a *ℤ q
  cofactors-cross = quotients-cross a b p q _ first second greatest.0 greatest.1
