use Rattle.std.proofs.Common.{◌≡◌, ◌≢◌, ℕ, ◌<◌, ◌≤◌, ◌^◌, Bool, true, false, ◌&&◌, if◌then◌else◌, List, [], ◌∷◌, slice_get, Some, None, Ok, Err, arith, get_or}
use Rattle.std.proofs.Common.{length, le-leb, leb-true, nat_le, refl, ap, ◌∙◌}
use Rattle.std.specs.Prelude.{⊤}
use Rattle.std.specs.Str.{all_ascii_digits}
use Rattle.std.specs.Str.Parse.{ParsesUnsigned, digits_value}
use Rattle.std.proofs.lemmas.Bool.{and_from, and_parts}
use Rattle.std.proofs.lemmas.Str.Parse.{IsNumeralModel, numerals_by_value, parse_plain, tells_all_ascii_digits}
use Rattle.bench_frame.specs.Numbers.{number_in}

-- What `parse` reads of a text that begins with a digit.

-- the texts of decimal digits, and the numbers that they spell
numerals : IsNumeralModel (λ text. all_ascii_digits text ≡ true) (digits_value 10)
numerals = numerals_by_value (λ text. all_ascii_digits text ≡ true) tells_all_ascii_digits

-- a number stands where its test holds
taken : (test : Bool) (number : ℕ) → test ≡ true → Some number ≡ (if test then Some number else None)
taken true number holds = refl
taken false number holds = absurd (cc holds)

-- and none where it does not
left_out : (test : Bool) (number : ℕ) → (test ≡ true → ⊥) → None ≡ (if test then Some number else None)
left_out true number fails = absurd (fails refl)
left_out false number fails = refl

-- a text that begins with a digit does not begin with a plus
pub no-plus : (text bytes : List ℕ) (first : ℕ) → bytes ≡ text → Some first ≡ slice_get bytes 0 → 48 ≤ first → get_or text 0 0 ≢ 43
no-plus text [] first same is digit = absurd (cc is)
no-plus text (b ∷ bs) first same is digit =
    let at : first ≡ b = cc is in
    rw (← same) (λ plus. omega (arith, digit, at, plus))

module _ (text : List ℕ) (least most : ℕ) (plain : get_or text 0 0 ≢ 43) where
  -- a number that is read, and is at least and at most so much, is the text's
  pub number-read : (number : ℕ) → ParsesUnsigned {E = ⊤} 64 10 text (Ok number) → least ≤ number → number ≤ most → Some number ≡ number_in text least most
  number-read number parses above below =
      let read = parse_plain numerals {E = ⊤} 64 text (Ok number) parses plain in
      let value_above : least ≤ digits_value 10 text = omega (arith, above, read.1) in
      let value_below : digits_value 10 text ≤ most = omega (arith, below, read.1) in
      ap Some read.1 ∙ taken _ (digits_value 10 text) (and_from _ _ (le-leb 1 (length text) read.0.1)
      (and_from _ _ read.0.0 (and_from _ _ (le-leb least (digits_value 10 text) value_above) (le-leb (digits_value 10 text) most value_below))))

  -- where a number stands, its digits spell it, and it is at least and at most so much
  spelled : nat_le 1 (length text) && (all_ascii_digits text && (nat_le least (digits_value 10 text) && nat_le (digits_value 10 text) most)) ≡ true
      → ((all_ascii_digits text ≡ true) × (1 ≤ length text)) × (least ≤ digits_value 10 text) × (digits_value 10 text ≤ most)
  spelled holds =
      let parts = and_parts (nat_le 1 (length text)) (all_ascii_digits text && (nat_le least (digits_value 10 text) && nat_le (digits_value 10 text) most))
      holds in
      let digits = and_parts (all_ascii_digits text) (nat_le least (digits_value 10 text) && nat_le (digits_value 10 text) most) parts.1 in
      let within = and_parts (nat_le least (digits_value 10 text)) (nat_le (digits_value 10 text) most) digits.1 in
      ((digits.0, leb-true 1 (length text) parts.0), leb-true least (digits_value 10 text) within.0, leb-true (digits_value 10 text) most within.1)

  -- a text that is refused spells no number of 64 bits, so none of at most so much
  pub number-refused : ParsesUnsigned {E = ⊤} 64 10 text (Err (tt {0})) → most < 2 ^ 64 → None ≡ number_in text least most
  number-refused parses fits = left_out _ (digits_value 10 text) (λ holds.
      let is = spelled holds in
      parse_plain numerals {E = ⊤} 64 text (Err (tt {0})) parses plain (is.0.0, is.0.1, omega (arith, is.2, fits)))
