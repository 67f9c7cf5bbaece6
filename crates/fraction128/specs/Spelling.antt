use Rattle.std.specs.Prelude.{ℕ, ℤ, pos, List, ◌∷◌, ◌++◌, if◌then◌else◌}
use Rattle.std.specs.Ordering.{int_eq}
use Rattle.std.specs.Fmt.{signed_decimal}
use Rattle.fraction128.specs.declared.fraction.Fraction.{Fraction}

-- the ASCII text of p over q: p alone where q is 1, and else p, a stroke and q, in decimal
abbrev pub quotient_text : ℤ → ℤ → List ℕ
quotient_text p q = if int_eq q (pos 1) then signed_decimal p else signed_decimal p ++ 47 ∷ signed_decimal q

-- the canonical spelling of a fraction
abbrev pub spelling : Fraction → List ℕ
spelling x = quotient_text x.numerator x.denominator
