use Rattle.std.specs.Prelude.{◌≡◌, ◌⊎◌, ℕ, ◌+◌, ◌*◌, ◌^◌, ◌≤◌, ◌==◌, ◌||◌, ◌++◌, Bool, false, List, [], ◌∷◌, length, pos, neg_ℤ, ◌*ℤ◌}
use Rattle.std.specs.Prelude.{if◌then◌else◌}
use Rattle.std.specs.Str.Parse.{AllDigits, digits_value}
use Rattle.fraction128.specs.declared.fraction.Fraction.{Fraction}

-- decimal digits, at most `most` of them
abbrev pub AreDigits : ℕ → List ℕ → Type 0
AreDigits most text = AllDigits 10 text × (length text ≤ most)

-- at most 15 digits before the point and at most 6 behind it, at least one in all: they spell the numerator over a power of ten
pub record SpellsDecimal (whole decimals : List ℕ) (numerator denominator : ℕ) : Type 0 where
  pub whole_digits : AreDigits 15 whole
  pub decimal_digits : AreDigits 6 decimals
  pub some_digit : 1 ≤ length whole + length decimals
  pub power : denominator ≡ 10 ^ length decimals
  pub value : numerator ≡ digits_value 10 whole * denominator + digits_value 10 decimals

-- 1 to 21 digits above the stroke, and at most 7 below it, which spell 1 to 1,000,000
pub record SpellsQuotient (above below : List ℕ) (numerator denominator : ℕ) : Type 0 where
  pub digits_above : AreDigits 21 above
  pub some_digit : 1 ≤ length above
  pub digits_below : AreDigits 7 below
  pub limits : (1 ≤ denominator) × (denominator ≤ 1000000)
  pub value : (numerator ≡ digits_value 10 above) × (denominator ≡ digits_value 10 below)

-- a numeral without its sign: digits, digits with a point among them, or a quotient
abbrev pub IsUnsigned : List ℕ → ℕ → ℕ → Type 0
IsUnsigned text numerator denominator = SpellsDecimal text [] numerator denominator
    ⊎ ((whole : List ℕ) × (decimals : List ℕ)
    × (text ≡ whole ++ 46 ∷ decimals) × SpellsDecimal whole decimals numerator denominator)
    ⊎ ((above : List ℕ) × (below : List ℕ) × (text ≡ above ++ 47 ∷ below) × SpellsQuotient above below numerator denominator)

-- what follows the sign, `+` or `-`, where there is one
abbrev pub without_sign : List ℕ → List ℕ
without_sign [] = []
without_sign (b ∷ bs) = if (b == 43) || (b == 45) then bs else b ∷ bs

-- whether a minus sign stands in front
abbrev pub has_minus : List ℕ → Bool
has_minus [] = false
has_minus (b ∷ bs) = b == 45

-- the text is a numeral, and x is the fraction that it spells
pub record IsNumeral (text : List ℕ) (x : Fraction) : Type 0 where
  pub numerator : ℕ
  pub denominator : ℕ
  pub spelled : IsUnsigned (without_sign text) numerator denominator
  pub value : x.numerator *ℤ pos denominator ≡ (if has_minus text then neg_ℤ (pos numerator) else pos numerator) *ℤ x.denominator
