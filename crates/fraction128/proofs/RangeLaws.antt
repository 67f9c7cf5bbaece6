use Rattle.std.proofs.Common.{◌≡◌, ℤ, pos, ◌-ℤ◌, unsigned_abs, FitsSigned, arith}
use Rattle.std.proofs.lemmas.Int.{ints, fits_signed_from_abs}
use Rattle.std.specs.Prelude.{Result, Ok, Err, OnErr}
use mir.Syntax.{w128}
use Rattle.fraction128.specs.Range.{InRange}

-- a number in range fits 128 bits
pub FitsSigned-in_range : (z : ℤ) → InRange z → FitsSigned w128 z
FitsSigned-in_range z h = fits_signed_from_abs w128 z h

-- the negative of a number has its size
pub unsigned_abs-negative : (z : ℤ) → unsigned_abs (pos 0 -ℤ z) ≡ unsigned_abs z
unsigned_abs-negative z = omega (arith, ints)

-- what holds whatever the result is holds of an error
pub OnErr-always : {T E : Type 0} (r : Result T E) (P : Type 0) → P → OnErr r P
OnErr-always (Ok x) P h = tt
OnErr-always (Err e) P h = h
