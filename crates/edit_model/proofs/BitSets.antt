use Rattle.std.proofs.Common.{◌≡◌, ◌≢◌, ℕ, ◌*◌, ◌/◌, ◌%◌, ◌^◌, ◌<◌, ◌≤◌, nat_eq, nat_lt, Bool, true, false, refl, sym, ◌∙◌, arith}
use Rattle.std.proofs.lemmas.Nat.Bits.{bit_at_above, bit_at_and, bit_at_clear_other}
use Rattle.std.specs.Int.{bit_at, bit_not}
use Rattle.std.specs.Int.Bits.{bit_and}
use mir.Syntax.{w64}
use mir.Val.{bits}
use Rattle.std.proofs.Math.Nat.{div-eq_of_lt, div-lt_iff_lt-mul, pow-le-pow_right}
use Rattle.std.proofs.lemmas.Bool.Decides.{Decides-eqb}
use Rattle.std.proofs.lemmas.Nat.{pow_pos}
use Rattle.std.proofs.lemmas.Bool.Decides.{nat_tests}
use Rattle.std.specs.Bool.{Decides}
use Rattle.edit_model.specs.Points.{has_code}

-- a set, as bits, that is shifted to nothing has no bit but the first ones, so many
pub shifted_out : (set count : ℕ) → Decides (nat_eq (set / 2 ^ count) 0) (set < 2 ^ count)
shifted_out set count =
    let below = div-lt_iff_lt-mul {k = 2 ^ count} {x = set} {y = 1} (pow_pos count) in (
      λ zero_left.
          let none : set / 2 ^ count ≡ 0 = (Decides-eqb (set / 2 ^ count) 0).0 zero_left in
          let under : set < 1 * 2 ^ count = below.0 (omega arith) in omega arith,
      λ under.
          let few : set / 2 ^ count < 1 = below.1 (omega arith) in (Decides-eqb (set / 2 ^ count) 0).1 (omega arith),
    )

-- a set of 64 bits has no bit but the first ones, where these are 64 or more
pub fits_many : (set count : ℕ) → set < 2 ^ 64 → 64 ≤ count → set < 2 ^ count
fits_many set count under many =
    let more : 2 ^ 64 ≤ 2 ^ count = pow-le-pow_right {n = 2} (omega arith) {i = 64} {j = count} many in omega arith

-- a set of 64 bits has no code from 64 on
pub no_code_past : (set code : ℕ) → set < 2 ^ 64 → 64 ≤ code → nat_lt code 64 ≡ has_code set code
no_code_past set code under past =
    let shifted : set / 2 ^ code ≡ 0 = div-eq_of_lt (fits_many set code under past) in
    let none : has_code set code ≡ false = rw shifted refl in
    let above : nat_lt code 64 ≡ false = grind (arith, nat_tests) in above ∙ sym none

-- a set of 64 bits without one of them has the others
pub others_kept : (set k i : ℕ) → set < 2 ^ 64 → k < 64 → i ≢ k → bit_at (bit_and set (bit_not w64 (1 * 2 ^ k % 2 ^ bits w64))) i ≡ bit_at set i
others_kept set k i under within apart = by (nat_lt i 64) refl
  where
    by : (b : Bool) → nat_lt i 64 ≡ b → bit_at (bit_and set (bit_not w64 (1 * 2 ^ k % 2 ^ bits w64))) i ≡ bit_at set i
    by true e = let below : i < 64 = grind (arith, nat_tests) in bit_at_clear_other w64 set k within i below apart
    by false e =
        let past : 64 ≤ i = grind (arith, nat_tests) in
        omega (arith, bit_at_and set (bit_not w64 (1 * 2 ^ k % 2 ^ bits w64)) i, bit_at_above set 64 i under past)
