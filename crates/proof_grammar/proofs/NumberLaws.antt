use Rattle.std.proofs.Common.{◌≡◌, ℕ, suc, ◌<◌, ◌^◌, ◌==◌, nat_lt, Bool, true, false, if◌then◌else◌, List, [], ◌∷◌, ℤ, pos, negsuc, neg_ℤ, ◌≤ℤ◌, int_le}
use Rattle.std.proofs.Common.{unsigned_abs, length, refl, sym, ap, ◌∙◌, subst, arith}
use Rattle.std.specs.Bool.{Decides}
use Rattle.std.specs.Fmt.{decimal, signed_decimal}
use Rattle.std.specs.Str.Parse.{AllDigits, digits_value}
use Rattle.std.proofs.lemmas.Bool.Decides.{Decides-eqb, Decides-ltb}
use Rattle.std.proofs.lemmas.Fmt.{decimal_is_IsNumeral_wide}
use Rattle.fraction128.specs.Range.{InRange}
use Rattle.edit_line.specs.Combinations.{in_range}
use Rattle.edit_line.specs.declared.relation.Relation.TheVariants.{AtLeast}
use Rattle.edit_line.proofs.Enough.{is_enough-Decides}
use Rattle.proof_grammar.specs.Limits.{IsLong, IsShort}
use Rattle.proof_grammar.specs.Words.{whole_of}

-- Numbers, their spelling and their limits.

-- no number without a sign begins with one
unsigned : (n : ℕ) (ds : List ℕ) → n < 10 ^ 64 → 45 ∷ ds ≡ decimal n → ⊥
unsigned n ds below e =
    let digits = (decimal_is_IsNumeral_wide n below).0.1 in
    let there = subst (λ (w : List ℕ). AllDigits 10 w) (sym e) digits in
    let first = there.0 in absurd (omega (arith, first))

pub signed-whole : (z : ℤ) → InRange z → whole_of (signed_decimal z) ≡ z
signed-whole (negsuc n) fits =
    let value = (decimal_is_IsNumeral_wide (suc n) (omega (arith, fits))).1 in ap (λ (k : ℕ). neg_ℤ (pos k)) value
signed-whole (pos n) fits = by (decimal n) refl
  where
    small : n < 10 ^ 64
    small = omega (arith, fits)

    by : (w : List ℕ) → decimal n ≡ w → whole_of w ≡ pos n
    by [] is = absurd (omega (arith, (decimal_is_IsNumeral_wide n small).0.0, ap length is))
    by (b ∷ ds) is = at (b == 45) refl
      where
        at : (c : Bool) → (b == 45) ≡ c → (if c then neg_ℤ (pos (digits_value 10 ds)) else pos (digits_value 10 (b ∷ ds))) ≡ pos n
        at true same = absurd (unsigned n ds small (ap (λ (k : ℕ). k ∷ ds) (sym ((Decides-eqb b 45).0 same)) ∙ sym is))
        at false other = ap (λ (w : List ℕ). pos (digits_value 10 w)) (sym is) ∙ ap pos (decimal_is_IsNumeral_wide n small).1

-- ---- what fits

pub long-Decides : (n : ℕ) → Decides (nat_lt n (2 ^ 64)) (IsLong n)
long-Decides n = Decides-ltb n (2 ^ 64)

pub short-Decides : (n : ℕ) → Decides (nat_lt n (2 ^ 32)) (IsShort n)
short-Decides n = Decides-ltb n (2 ^ 32)

pub ranged-Decides : (z : ℤ) → Decides (in_range z) (InRange z)
ranged-Decides z = Decides-ltb (unsigned_abs z) (2 ^ 127)

pub positive-Decides : (z : ℤ) → Decides (int_le (pos 0) z) (pos 0 ≤ℤ z)
positive-Decides z = is_enough-Decides AtLeast z
