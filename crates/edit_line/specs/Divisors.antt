use Rattle.std.specs.Prelude.{ℕ, ℤ, zero, suc, List, ◌∷◌, map, pos, int_div, unsigned_abs}
use Rattle.std.specs.List.{fold}
use Rattle.fraction128.specs.Divisor.{gcd}
use Rattle.edit_line.specs.Lines.{LineParts}

-- the greatest common divisor of a number and those of a list
abbrev pub gcd_onto : ℕ → List ℤ → ℕ
gcd_onto g xs = fold (λ g x. gcd g (unsigned_abs x)) g xs

-- the greatest common divisor of the numbers, 0 where they are all 0
abbrev pub gcd_all : List ℤ → ℕ
gcd_all xs = gcd_onto 0 xs

-- a number, and 1 in place of 0
abbrev pub or_one : ℕ → ℕ
or_one zero = 1
or_one (suc n) = suc n

-- what a line's numbers are divided by: their greatest common divisor, or 1 where they are all 0
abbrev pub divisor_of : List ℤ → ℤ → ℤ
divisor_of factors constant = pos (or_one (gcd_all (constant ∷ factors)))

-- the line, its numbers divided by g
abbrev pub divided_by : ℤ → LineParts → LineParts
divided_by g line = record line { factors = map (λ c. int_div c g) line.factors; constant = int_div line.constant g }

-- the line, its numbers divided by their greatest common divisor
unfoldable pub reduced : LineParts → LineParts
reduced line = divided_by (divisor_of line.factors line.constant) line
