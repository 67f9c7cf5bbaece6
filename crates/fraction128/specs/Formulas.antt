use Rattle.std.specs.Prelude.{ℤ, pos, ◌+ℤ◌, ◌*ℤ◌, ◌^◌, Bool, Option, Some, None, Result, Ok, Err, List, [], ◌∷◌, nat_lt, int_div, int_lt, unsigned_abs, if◌then◌else◌}
use lib.IntN.{neg_ℤ}
use Rattle.std.specs.List.{list_all}
use Rattle.foundation.specs.Options.{◌>>?◌}
use Rattle.fraction128.specs.Arithmetic.{sum_of_quotients}
use Rattle.fraction128.specs.Divisor.{int_gcd}
use Rattle.fraction128.specs.declared.fraction.Fraction.{Fraction}

-- a fraction as two numbers, which need not be in range or in lowest terms
pub record Ratio : Type 0 where
  pub numerator : ℤ
  pub denominator : ℤ

-- a fraction's two numbers
abbrev pub ratio_of : Fraction → Ratio
ratio_of x = record { numerator = x.numerator; denominator = x.denominator }

-- the fraction that was answered, None for an overflow
abbrev pub answered : {E : Type 0} → Result Fraction E → Option Ratio
answered (Ok x) = Some (ratio_of x)
answered (Err e) = None

-- whether each number is in range
abbrev pub are_in_range : List ℤ → Bool
are_in_range numbers = list_all (λ z. nat_lt (unsigned_abs z) (2 ^ 127)) numbers

-- p over q in lowest terms
abbrev pub in_lowest_terms : ℤ → ℤ → Ratio
in_lowest_terms p q = record { numerator = int_div p (int_gcd p q); denominator = int_div q (int_gcd p q) }

-- the sum of two fractions, over the least common multiple of their denominators; None where a number of the formula leaves the range
abbrev pub added : Ratio → Ratio → Option Ratio
added x y =
    let common = int_gcd x.denominator y.denominator in
    let p = x.numerator *ℤ int_div y.denominator common +ℤ y.numerator *ℤ int_div x.denominator common in
    let q = int_div x.denominator common *ℤ y.denominator in
    if are_in_range (sum_of_quotients x.numerator x.denominator y.numerator y.denominator) then Some (in_lowest_terms p q) else None

-- k times a fraction, where what k and the denominator share is divided out first; None where a number of the formula leaves the range
abbrev pub scaled : Ratio → ℤ → Option Ratio
scaled x k =
    let common = int_gcd k x.denominator in
    let p = x.numerator *ℤ int_div k common in
    let q = int_div x.denominator common in
    if are_in_range (p ∷ q ∷ []) then Some (record { numerator = p; denominator = q }) else None

-- a fraction divided by a whole number other than 0, where what both share is divided out first; None where a number
-- of the formula leaves the range
abbrev pub divided : Ratio → ℤ → Option Ratio
divided x k =
    let common = int_gcd x.numerator k in
    let p = int_div x.numerator common in
    let q = x.denominator *ℤ int_div (pos (unsigned_abs k)) common in
    if are_in_range (q ∷ p ∷ []) then Some (record { numerator = if int_lt k (pos 0) then neg_ℤ p else p; denominator = q }) else None

-- half of the sum of two fractions; None where a number of the formula of the sum or of its half leaves the range
abbrev pub middle : Ratio → Ratio → Option Ratio
middle x y = added x y >>? (λ sum. divided sum (pos 2))
