use Rattle.std.specs.Prelude.{ℕ, zero, suc, ◌%◌, ℤ, pos, unsigned_abs}

-- the last of Euclid's remainders, after this number of divisions at most
abbrev pub gcd_within : ℕ → ℕ → ℕ → ℕ
gcd_within zero a b = a
gcd_within (suc steps) a zero = a
gcd_within (suc steps) a (suc b) = gcd_within steps (suc b) (a % suc b)

-- the greatest common divisor of two numbers, 0 for two zeros
unfoldable pub gcd : ℕ → ℕ → ℕ
gcd a b = gcd_within (suc b) a b

-- the greatest common divisor of whole numbers, whatever their signs
abbrev pub int_gcd : ℤ → ℤ → ℤ
int_gcd a b = pos (gcd (unsigned_abs a) (unsigned_abs b))
