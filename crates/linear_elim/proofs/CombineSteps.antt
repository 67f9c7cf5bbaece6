use Rattle.std.proofs.Common.{◌≡◌, ℕ, Option, Some, None, Ok, Err, ℤ, pos, negsuc, unsigned_abs, neg_ℤ, int_div, sym, ap, ◌∙◌}
use Rattle.fraction128.specs.Divisor.{int_gcd}
use Rattle.fraction128.proofs.DivisorLaws.{IsGcd-one, gcd-from_IsGcd}
use Rattle.edit_line.specs.Combinations.{first_overflow, numbers, sum_of, unless_overflow}
use Rattle.edit_line.specs.Divisors.{divisor_of, reduced}
use Rattle.edit_line.specs.Lines.{LineParts, factor}
use Rattle.edit_line.proofs.DivisionLaws.{gcd-one}
use Rattle.linear_elim.specs.Combinations.{combine_result, combined_with, first_multiplier, second_multiplier, with_sign_of}

-- The combination of two lines, by the multipliers that were found.

-- where one of the factors is 1 or -1 they have no other common divisor
pub divisor-first : (a b : ℤ) → a ≡ pos 1 → pos 1 ≡ int_gcd a b
divisor-first a b is = rw is (ap (λ n. pos n) (sym (gcd-one (unsigned_abs b))))

pub divisor-second : (a b : ℤ) → b ≡ negsuc 0 → pos 1 ≡ int_gcd a b
divisor-second a b is = rw is (ap (λ n. pos n) (gcd-from_IsGcd (unsigned_abs a) 1 1 (IsGcd-one (unsigned_abs a))))

module _ (s t : LineParts) (f : ℕ) (a b m n : ℤ) (a_is : a ≡ factor s f) (b_is : b ≡ factor t f) (m_is : m ≡ int_div (with_sign_of a (neg_ℤ b)) (int_gcd a b))
    (n_is : n ≡ int_div (with_sign_of a a) (int_gcd a b)) where
  multipliers-are : unless_overflow (first_overflow 0 m n (numbers s) (numbers t)) (combined_with m n s t) ≡ combine_result s t f
  unfolding first_multiplier second_multiplier
  multipliers-are =
      let m_first = m_is ∙ (λ i. int_div (with_sign_of (a_is i) (neg_ℤ (b_is i))) (int_gcd (a_is i) (b_is i))) in
      let n_second = n_is ∙ (λ i. int_div (with_sign_of (a_is i) (a_is i)) (int_gcd (a_is i) (b_is i))) in
      λ i. unless_overflow (first_overflow 0 (m_first i) (n_second i) (numbers s) (numbers t)) (combined_with (m_first i) (n_second i) s t)

  -- a place that leaves the range is what the combination gives
  pub combination-leaves : (place : ℕ) → Some place ≡ first_overflow 0 m n (numbers s) (numbers t) → Err place ≡ combine_result s t f
  combination-leaves place is = ap (λ (o : Option ℕ). unless_overflow o (combined_with m n s t)) is ∙ multipliers-are

  -- and else the sum, divided by the greatest common divisor of its numbers
  pub combination-stands : (sum line : LineParts) (m' n' g g' : ℤ) → None ≡ first_overflow 0 m n (numbers s) (numbers t) → sum ≡ sum_of m n s t
      → line ≡ reduced sum → g ≡ divisor_of sum.factors sum.constant
      → m' ≡ m → n' ≡ n → g' ≡ g → Ok (record { line = line; m = m'; n = n'; g = g' }) ≡ combine_result s t f
  combination-stands sum line m' n' g g' none sum_is line_is g_is m_is' n_is' g_is' =
      let line_formed = line_is ∙ ap reduced sum_is in
      let g_formed = g_is' ∙ g_is ∙ ap (λ (l : LineParts). divisor_of l.factors l.constant) sum_is in
      let parts_are : record { line = line; m = m'; n = n'; g = g' }
      ≡ combined_with m n s t = λ i. record { line = line_formed i; m = m_is' i; n = n_is' i; g = g_formed i } in
      ap (λ parts. Ok parts) parts_are ∙ ap (λ (o : Option ℕ). unless_overflow o (combined_with m n s t)) none ∙ multipliers-are
