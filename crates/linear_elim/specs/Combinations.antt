use Rattle.std.specs.Prelude.{◌≡◌, ℕ, ℤ, pos, ◌&&◌, not, Bool, Result, length, int_div, int_lt, if◌then◌else◌}
use lib.IntN.{neg_ℤ}
use Rattle.fraction128.specs.Divisor.{int_gcd}
use Rattle.edit_line.specs.Combinations.{first_overflow, numbers, sum_of, unless_overflow}
use Rattle.edit_line.specs.Divisors.{divisor_of, reduced}
use Rattle.edit_line.specs.Lines.{LineParts, factor, is_equal}

-- ---- the combination of two lines

-- the line bounds the field from below
abbrev pub is_lower : ℕ → LineParts → Bool
is_lower f line = int_lt (pos 0) (factor line f)

-- the line bounds the field from above
abbrev pub is_upper : ℕ → LineParts → Bool
is_upper f line = int_lt (factor line f) (pos 0)

-- the field does not stand in the line
abbrev pub is_flat : ℕ → LineParts → Bool
is_flat f line = not (is_lower f line) && not (is_upper f line)

-- an equality in which the field stands, so that it tells the field's value by the others
abbrev pub determines : ℕ → LineParts → Bool
determines f line = is_equal line.relation && not (is_flat f line)

-- a number, and its negative where the other is below 0
abbrev pub with_sign_of : ℤ → ℤ → ℤ
with_sign_of a z = if int_lt a (pos 0) then neg_ℤ z else z

-- with what s, in which the field stands, is multiplied so that the field goes from its sum with t
unfoldable pub first_multiplier : LineParts → LineParts → ℕ → ℤ
first_multiplier s t f = int_div (with_sign_of (factor s f) (neg_ℤ (factor t f))) (int_gcd (factor s f) (factor t f))

-- and with what t is multiplied, a number above 0
unfoldable pub second_multiplier : LineParts → LineParts → ℕ → ℤ
second_multiplier s t f = int_div (with_sign_of (factor s f) (factor s f)) (int_gcd (factor s f) (factor t f))

-- the combination of s and t in which the field is gone, its numbers divided by their greatest common divisor; an equality s is
-- so substituted into t
abbrev pub combination : LineParts → LineParts → ℕ → LineParts
combination s t f = reduced (sum_of (first_multiplier s t f) (second_multiplier s t f) s t)

-- two lines over one survey's fields
pub record SameShape (s t : LineParts) : Type 0 where
  pub shape : t.shape ≡ s.shape
  pub sets : length s.sets ≡ length t.sets
  pub factors : length s.factors ≡ length t.factors

-- a line with what its lines were multiplied and divided by
pub record CombinedParts : Type 0 where
  pub line : LineParts
  pub m : ℤ
  pub n : ℤ
  pub g : ℤ

-- m times s and n times t, divided by the greatest common divisor g of the numbers
abbrev pub combined_with : ℤ → ℤ → LineParts → LineParts → CombinedParts
combined_with m n s t =
    record { line = reduced (sum_of m n s t); m = m; n = n; g = divisor_of (sum_of m n s t).factors (sum_of m n s t).constant }

-- the combination of s and t in which the field is gone, or the first place at which a number of it leaves the range
abbrev pub combine_result : LineParts → LineParts → ℕ → Result CombinedParts ℕ
combine_result s t f =
    let m = first_multiplier s t f in
    let n = second_multiplier s t f in
    unless_overflow (first_overflow 0 m n (numbers s) (numbers t)) (combined_with m n s t)
