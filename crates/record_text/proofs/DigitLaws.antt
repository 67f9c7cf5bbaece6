use Rattle.std.proofs.Common.{◌≡◌, ℕ, ◌+◌, ◌*◌, ◌-◌, ◌^◌, ◌<◌, ◌≤◌, List, length, take, get_or, arith}
use Rattle.std.proofs.Math.Nat.{pow-le-pow_right}
use Rattle.std.proofs.lemmas.Int.Digits.{digits_more, digits_value-lt, digits_value_more}
use Rattle.std.proofs.lemmas.List.{length-take}
use Rattle.std.proofs.lemmas.Str.{digit_value_digit}
use Rattle.std.specs.Char.{IsAsciiDigit}
use Rattle.std.specs.Str.Parse.{AllDigits, digits_value}

-- at most 21 digits spell less than 10 ^ 21
pub number_small : (ds : List ℕ) (i : ℕ) → AllDigits 10 (take i ds) → length ds ≤ 21 → digits_value 10 (take i ds) < 10 ^ 21
number_small ds i h le =
    let len : length (take i ds) ≤ 21 = omega (arith, length-take i ds) in
    omega (arith, digits_value-lt 10 (take i ds) h, pow-le-pow_right {n = 10} (omega arith) len)

-- one digit more
pub number_more : (ds : List ℕ) (n i d : ℕ) → i < length ds → n ≡ digits_value 10 (take i ds) → AllDigits 10 (take i ds) → IsAsciiDigit (get_or ds i 0)
    → d ≡ get_or ds i 0 - 48
    → (n * 10 + d ≡ digits_value 10 (take (i + 1) ds)) × AllDigits 10 (take (i + 1) ds)
number_more ds n i d lt e h digit same =
    let v = digit_value_digit (get_or ds i 0) digit in
    (rw (digits_value_more 10 ds i lt) (omega arith), digits_more 10 ds i lt h (omega arith))
