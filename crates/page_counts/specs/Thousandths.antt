-- Numbers in thousandths, and thousandths as decimal numbers.
use Rattle.std.specs.Prelude.{ℕ, ◌+◌, ◌/◌, ◌%◌, ◌^◌, ◌==◌, ℤ, pos, ◌*ℤ◌, nat_le, int_lt, unsigned_abs, if◌then◌else◌}
use Rattle.std.specs.Prelude.{List, [], ◌∷◌, ◌++◌, Option, Some, None}
use Rattle.std.specs.Fmt.{decimal}
use Rattle.std.specs.Int.{int_div_euclid}
use Rattle.fraction128.specs.declared.fraction.Fraction.{Fraction}
use Rattle.edit_model.specs.declared.value.Value.{Value}
use Rattle.edit_model.specs.declared.value.Value.TheVariants.{Bad, Code, Number}

-- how many thousandths a number is, rounded down; None where its numerator is above 10^33 in size
abbrev pub thousandths_of : Fraction → Option ℤ
thousandths_of x =
    if nat_le (unsigned_abs x.numerator) (10 ^ 33) then Some (int_div_euclid (pos 1000 *ℤ x.numerator) x.denominator) else None

-- how many thousandths a value is, None where it is no number or has too great a numerator
abbrev pub thousandths_at : Value → Option ℤ
thousandths_at (Number x) = thousandths_of x
thousandths_at (Code c) = None
thousandths_at Bad = None

-- ---- as text

-- the byte of a digit
abbrev pub digit : ℕ → ℕ
digit n = 48 + n

-- the digits of tenths, hundredths and thousandths, without zeros at the end
abbrev pub digits_behind : ℕ → List ℕ
digits_behind rest =
    if rest % 100 == 0 then digit (rest / 100) ∷ [] else
    if rest % 10 == 0 then digit (rest / 100) ∷ digit (rest / 10 % 10) ∷ [] else
    digit (rest / 100) ∷ digit (rest / 10 % 10) ∷ digit (rest % 10) ∷ []

-- what stands behind the whole part: nothing where no thousandths are left, and else a point and their digits
abbrev pub rest_text : ℕ → List ℕ
rest_text rest = if rest == 0 then [] else 46 ∷ digits_behind rest

-- a minus sign where the number is below 0
abbrev pub sign_text : ℤ → List ℕ
sign_text thousandths = if int_lt thousandths (pos 0) then 45 ∷ [] else []

-- so many thousandths as a decimal number: -1500 is -1.5, 250 is 0.25, 3000 is 3
abbrev pub decimal_text : ℤ → List ℕ
decimal_text thousandths =
    sign_text thousandths ++ decimal (unsigned_abs thousandths / 1000) ++ rest_text (unsigned_abs thousandths % 1000)
