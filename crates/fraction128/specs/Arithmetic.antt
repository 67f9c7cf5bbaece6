use Rattle.std.specs.Prelude.{◌≡◌, ℤ, pos, ◌+ℤ◌, ◌*ℤ◌, int_div, unsigned_abs, List, [], ◌∷◌}
use lib.IntN.{neg_ℤ}
use Rattle.fraction128.specs.Divisor.{int_gcd}
use Rattle.fraction128.specs.declared.fraction.Fraction.{Fraction}

-- ---- what the operations mean

-- z is the sum of x and y
abbrev pub IsSum : Fraction → Fraction → Fraction → Type 0
IsSum x y z =
    z.numerator *ℤ (x.denominator *ℤ y.denominator)
    ≡ (x.numerator *ℤ y.denominator +ℤ y.numerator *ℤ x.denominator) *ℤ z.denominator

-- z is x without y: the sum of z and y is x
abbrev pub IsDifference : Fraction → Fraction → Fraction → Type 0
IsDifference x y z = IsSum z y x

-- z is the middle of x and y: twice z is their sum
abbrev pub IsMiddle : Fraction → Fraction → Fraction → Type 0
IsMiddle x y z =
    pos 2 *ℤ z.numerator *ℤ (x.denominator *ℤ y.denominator)
    ≡ (x.numerator *ℤ y.denominator +ℤ y.numerator *ℤ x.denominator) *ℤ z.denominator

-- z is k times x
abbrev pub IsProduct : Fraction → ℤ → Fraction → Type 0
IsProduct x k z = z.numerator *ℤ x.denominator ≡ x.numerator *ℤ k *ℤ z.denominator

-- z is x divided by k: k times z is x
abbrev pub IsQuotient : Fraction → ℤ → Fraction → Type 0
IsQuotient x k z = IsProduct z k x

-- ---- the numbers that are formed on the way, each of which must be in range

-- a/b + c/d, over the least common multiple of b and d
abbrev pub sum_of_quotients : ℤ → ℤ → ℤ → ℤ → List ℤ
sum_of_quotients a b c d =
    let first = a *ℤ int_div d (int_gcd b d) in
    let second = c *ℤ int_div b (int_gcd b d) in
    first ∷ second ∷ (first +ℤ second) ∷ (int_div b (int_gcd b d) *ℤ d) ∷ []

-- the numbers of a sum
abbrev pub sum_numbers : Fraction → Fraction → List ℤ
sum_numbers x y = sum_of_quotients x.numerator x.denominator y.numerator y.denominator

-- the numbers of a difference, which is the sum with the negative
abbrev pub difference_numbers : Fraction → Fraction → List ℤ
difference_numbers x y = sum_of_quotients x.numerator x.denominator (neg_ℤ y.numerator) y.denominator

-- the numbers of k times x: what k and the denominator share is divided out first
abbrev pub scaled_numbers : Fraction → ℤ → List ℤ
scaled_numbers x k =
    let common = int_gcd k x.denominator in
    (x.numerator *ℤ int_div k common) ∷ int_div x.denominator common ∷ []

-- the numbers of x divided by k: what k and the numerator share is divided out first. A negative k turns the
-- sign of the numerator, which then is in range where it was
abbrev pub divided_numbers : Fraction → ℤ → List ℤ
divided_numbers x k =
    let common = int_gcd x.numerator k in
    (x.denominator *ℤ int_div (pos (unsigned_abs k)) common) ∷ int_div x.numerator common ∷ []
