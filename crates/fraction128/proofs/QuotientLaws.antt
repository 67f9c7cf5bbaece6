use Rattle.std.proofs.Common.{◌≡◌, ◌≢◌, ◌⊎◌, inl, inr, zero, suc, if◌then◌else◌, ℤ, pos, negsuc, ◌<ℤ◌, ◌*ℤ◌, Bool, true, false, Some, Result, Ok, Err, IfOk}
use Rattle.std.proofs.Common.{OnOk, OnErr, [], ◌∷◌, int_div, int_lt, unsigned_abs, refl, sym, ap, ◌∙◌, subst, arith}
use lib.IntN.{neg_ℤ}
use Rattle.std.specs.Int.{IsGcd}
use Rattle.std.proofs.lemmas.Int.{ints}
use Rattle.fraction128.specs.Arithmetic.{IsQuotient, divided_numbers}
use Rattle.fraction128.specs.Divisor.{int_gcd}
use Rattle.fraction128.specs.Formulas.{Ratio, answered, divided, ratio_of}
use Rattle.fraction128.specs.Range.{AllInRange}
use Rattle.fraction128.specs.declared.fraction.Fraction.{Fraction}
use Rattle.fraction128.proofs.CofactorLaws.{second-size_above}
use Rattle.fraction128.proofs.FormulaLaws.{part_size, quotient-coprime, quotient_is, quotient_is_negative}
use Rattle.fraction128.proofs.LowestLaws.{lowest_unique}
use Rattle.fraction128.proofs.RatioLaws.{answer_is, fits_answer, overflow_answer}
use Rattle.fraction128.proofs.Signs.{above-*, same_cancel}
use Rattle.fraction128.proofs.Whole.{parts, ring, same_dif}

-- The quotient by the formula is what the call answers, and what it means.

-- ---- signs

-- a number is above 0, is 0 or is below
by_sign : (z : ℤ) → (pos 0 <ℤ z) ⊎ ((z ≡ pos 0) ⊎ (z <ℤ pos 0))
by_sign (pos zero) = inr (inl refl)
by_sign (pos (suc n)) = inl (omega (arith, ints))
by_sign (negsuc n) = inr (inr (omega (arith, ints)))

above_neg : (z : ℤ) → z <ℤ pos 0 → pos 0 <ℤ neg_ℤ z
above_neg z below = omega (arith, ints)

size_neg : (z : ℤ) → unsigned_abs (neg_ℤ z) ≡ unsigned_abs z
size_neg (pos zero) = refl
size_neg (pos (suc n)) = refl
size_neg (negsuc n) = refl

-- a factor other than 0 is left out on both sides
cancel_any : (a b c : ℤ) → c ≢ pos 0 → a *ℤ c ≡ b *ℤ c → a ≡ b
cancel_any a b c some same = at (by_sign c)
  where
    turned : (a c : ℤ) → a *ℤ neg_ℤ c ≡ neg_ℤ (a *ℤ c)
    turned a c = rw (parts a, parts c) (simp ring (same_dif _ _ _ _ (omega arith)))

    at : (pos 0 <ℤ c) ⊎ ((c ≡ pos 0) ⊎ (c <ℤ pos 0)) → a ≡ b
    at (inl up) = same_cancel a b c up same
    at (inr (inl none)) = absurd (some none)
    at (inr (inr down)) = same_cancel a b (neg_ℤ c) (above_neg c down) (turned a c ∙ ap neg_ℤ same ∙ sym (turned b c))

below : (z : ℤ) → int_lt z (pos 0) ≡ true → z <ℤ pos 0
below z h = grind (arith, ints)

over : (z : ℤ) → int_lt z (pos 0) ≡ false → z ≢ pos 0 → pos 0 <ℤ z
over z h apart = at (by_sign z)
  where
    told : (z : ℤ) → z <ℤ pos 0 → int_lt z (pos 0) ≡ true
    told z down = grind (arith, ints)

    at : (pos 0 <ℤ z) ⊎ ((z ≡ pos 0) ⊎ (z <ℤ pos 0)) → pos 0 <ℤ z
    at (inl up) = up
    at (inr (inl none)) = absurd (apart none)
    at (inr (inr down)) = absurd (cc (sym h ∙ told z down))

-- ---- the formula

module _ (x : Ratio) (k : ℤ) (some : k ≢ pos 0) where
  size : pos (unsigned_abs (int_div k (int_gcd x.numerator k))) ≡ int_div (pos (unsigned_abs k)) (int_gcd x.numerator k)
  size = part_size x.numerator k _ refl

  abbrev quotient : Ratio
  quotient = record {
    numerator = if int_lt k (pos 0) then neg_ℤ (int_div x.numerator (int_gcd x.numerator k)) else int_div x.numerator (int_gcd x.numerator k);
    denominator = x.denominator *ℤ int_div (pos (unsigned_abs k)) (int_gcd x.numerator k);
  }

  quotient-above : pos 0 <ℤ x.denominator → pos 0 <ℤ quotient.denominator
  quotient-above above = subst (λ (z : ℤ). pos 0 <ℤ (x.denominator *ℤ z)) size
      (above-* x.denominator _ above (second-size_above x.numerator k _ _ refl refl some))

  quotient-value : x.numerator *ℤ quotient.denominator ≡ quotient.numerator *ℤ k *ℤ x.denominator
  quotient-value = by (int_lt k (pos 0)) refl
    where
      by : (b : Bool) → int_lt k (pos 0) ≡ b
          → x.numerator *ℤ (x.denominator *ℤ int_div (pos (unsigned_abs k)) (int_gcd x.numerator k))
          ≡ (if b then neg_ℤ (int_div x.numerator (int_gcd x.numerator k)) else int_div x.numerator (int_gcd x.numerator k)) *ℤ k *ℤ x.denominator
      by true h = quotient_is_negative x.numerator x.denominator k _ _ _ _ refl refl (below k h) refl (ap (λ (z : ℤ). x.denominator *ℤ z) (sym size))
      by false h = quotient_is x.numerator x.denominator k _ _ _ _ refl refl (over k h some) refl (ap (λ (z : ℤ). x.denominator *ℤ z) (sym size))

  quotient-lowest : IsGcd (unsigned_abs x.numerator) (unsigned_abs x.denominator) 1 → IsGcd (unsigned_abs quotient.numerator)
      (unsigned_abs quotient.denominator) 1
  quotient-lowest lowest = by (int_lt k (pos 0))
    where
      plain : IsGcd (unsigned_abs (int_div x.numerator (int_gcd x.numerator k))) (unsigned_abs quotient.denominator) 1
      plain = quotient-coprime x.numerator x.denominator k _ _ quotient.denominator refl refl (ap (λ (z : ℤ). x.denominator *ℤ z) (sym size)) some lowest

      by : (b : Bool) → IsGcd (unsigned_abs (if b then neg_ℤ (int_div x.numerator (int_gcd x.numerator k)) else int_div x.numerator (int_gcd x.numerator k)))
          (unsigned_abs quotient.denominator) 1
      by true = subst (λ n. IsGcd n (unsigned_abs quotient.denominator) 1) (sym (size_neg _)) plain
      by false = plain

-- the quotient by the formula is the quotient, over a positive denominator
pub divided-value : (x : Ratio) (k : ℤ) (s : Ratio) → pos 0 <ℤ x.denominator → k ≢ pos 0 → divided x k ≡ Some s
    → (x.numerator *ℤ s.denominator ≡ s.numerator *ℤ k *ℤ x.denominator) × (pos 0 <ℤ s.denominator)
divided-value x k s above some e =
    subst (λ (z : Ratio). (x.numerator *ℤ z.denominator ≡ z.numerator *ℤ k *ℤ x.denominator) × (pos 0 <ℤ z.denominator))
    (answer_is ((x.denominator *ℤ int_div (pos (unsigned_abs k)) (int_gcd x.numerator k)) ∷ int_div x.numerator (int_gcd x.numerator k) ∷ [])
    (quotient x k some) s e) (quotient-value x k some, quotient-above x k some above)

-- what is answered for a quotient is the quotient by the formula
pub divided-answered : {E : Type 0} (x : Fraction) (k : ℤ) (r : Result Fraction E) → k ≢ pos 0 → IfOk r (λ z. IsQuotient x k z)
    → OnOk r (AllInRange (divided_numbers x k)) → OnErr r (¬ AllInRange (divided_numbers x k))
    → answered r ≡ divided (ratio_of x) k
divided-answered x k (Err e) some value fits overflow = sym (overflow_answer (divided_numbers x k) _ overflow)
divided-answered x k (Ok z) some value fits overflow =
    (λ i. Some (record { numerator = unique.0 i; denominator = unique.1 i })) ∙ sym (fits_answer (divided_numbers x k) _ fits)
  where
    q : Ratio
    q = quotient (ratio_of x) k some

    grouped : (a b c d : ℤ) → a *ℤ b *ℤ (c *ℤ d) ≡ a *ℤ c *ℤ d *ℤ b
    grouped a b c d = rw (parts a, parts b, parts c, parts d) (simp ring (same_dif _ _ _ _ (omega arith)))

    swapped : (a b c : ℤ) → a *ℤ b *ℤ c ≡ a *ℤ c *ℤ b
    swapped a b c = rw (parts a, parts b, parts c) (simp ring (same_dif _ _ _ _ (omega arith)))

    apart : (k *ℤ x.denominator) ≢ pos 0
    apart none = some (cancel_any k (pos 0) x.denominator (λ is. absurd (no_above is x.positive)) (none ∙ nothing x.denominator))
      where
        nothing : (d : ℤ) → pos 0 ≡ pos 0 *ℤ d
        nothing d = rw (parts d) (simp ring (same_dif _ _ _ _ (omega arith)))

        no_above : x.denominator ≡ pos 0 → pos 0 <ℤ x.denominator → ⊥
        no_above is above = omega (arith, ints)

    cross : z.numerator *ℤ q.denominator ≡ q.numerator *ℤ z.denominator
    cross =
        cancel_any _ _ (k *ℤ x.denominator) apart
        (grouped z.numerator q.denominator k x.denominator ∙ ap (λ (n : ℤ). n *ℤ q.denominator) (sym value) ∙ swapped x.numerator z.denominator q.denominator
        ∙ ap (λ (n : ℤ). n *ℤ z.denominator) (quotient-value (ratio_of x) k some) ∙ sym (grouped q.numerator z.denominator k x.denominator))

    unique : (z.numerator ≡ q.numerator) × (z.denominator ≡ q.denominator)
    unique = lowest_unique z.numerator z.denominator q.numerator q.denominator z.positive (quotient-above (ratio_of x) k some x.positive) z.reduced
        (quotient-lowest (ratio_of x) k some x.reduced) cross
