use Rattle.std.proofs.Common.{◌≡◌, ◌≢◌, ◌∙◌, ap, inl, inr, ℕ, zero, suc, ◌+◌, ◌*◌, ◌-◌, ◌^◌, ◌<◌, ◌≤◌, List, [], ◌∷◌, ◌++◌, length, take, drop, get_or, Option}
use Rattle.std.proofs.Common.{Some, None, refl, arith, true, false, position, nat_lt, add-one}
use Rattle.std.specs.Option.{IfNone, IfSome}
use Rattle.std.specs.List.{position_or_len}
use Rattle.std.proofs.Math.Nat.{pow-le-pow_right}
use Rattle.std.proofs.lemmas.Bool.Decides.{Decides-ltb, nat_tests}
use Rattle.std.proofs.lemmas.Int.Digits.{digits_value-lt}
use Rattle.std.proofs.lemmas.List.{length-drop, take_all}
use Rattle.std.proofs.lemmas.List.Quantifiers.{position-Some}
use Rattle.std.proofs.lemmas.Str.Parse.{digit_at}
use Rattle.std.specs.Str.Parse.{AllDigits, digits_value}
use Rattle.record_text.specs.Numerals.{AreDigits, SpellsDecimal, SpellsQuotient, IsUnsigned}
use Rattle.record_text.specs.inner.Marks.{is_mark}

-- ---- sizes

power_is_positive : (k : ℕ) → 1 ≤ 10 ^ k
power_is_positive k =
    let least : 0 ≤ k = omega arith in
    let grows : 10 ^ 0 ≤ 10 ^ k = pow-le-pow_right {n = 10} (omega arith) least in
    grows

-- digits that are at most `most` spell less than 10^most
digits_below : (most : ℕ) (ds : List ℕ) → AreDigits most ds → digits_value 10 ds < 10 ^ most
digits_below most ds h = omega (arith, digits_value-lt 10 ds h.0, pow-le-pow_right {n = 10} (omega arith) h.1)

below_product : (p q r m n : ℕ) → p < m → r < q → q ≤ n → p * q + r < m * n
below_product p q r m n few rest most =
    let step : (p + 1) * q ≤ m * n = grind arith in
    let split : (p + 1) * q ≡ p * q + q = grind arith in
    omega arith

-- the numerator of a decimal stays below 10 ^ 21, and its denominator is at most 10 ^ 6
pub decimal_below : (whole decimals : List ℕ) (p q r : ℕ) → AreDigits 15 whole → AreDigits 6 decimals → p ≡ digits_value 10 whole → q ≡ 10 ^ length decimals
    → r ≡ digits_value 10 decimals
    → (p * q + r < 10 ^ 21) × (1 ≤ q) × (q ≤ 1000000)
decimal_below whole decimals p q r before behind p-is q-is r-is =
    let p-below : p < 10 ^ 15 = rw p-is (digits_below 15 whole before) in
    let q-most : q ≤ 10 ^ 6 = rw q-is (pow-le-pow_right {n = 10} (omega arith) behind.1) in
    let r-below : r < q = rw (r-is, q-is) (digits_value-lt 10 decimals behind.0) in
    let q-positive : 1 ≤ q = rw q-is (power_is_positive (length decimals)) in
    (below_product p q r (10 ^ 15) (10 ^ 6) p-below r-below q-most, q-positive, q-most)

pub unsigned_below : (text : List ℕ) (p q : ℕ) → IsUnsigned text p q → (p < 10 ^ 21) × (1 ≤ q) × (q ≤ 1000000)
unsigned_below text p q (inl d) =
    let all = decimal_below text [] (digits_value 10 text) q 0 d.whole_digits d.decimal_digits refl d.power refl in
    rw d.value all
unsigned_below text p q (inr (inl (whole, decimals, split, d))) =
    let all = decimal_below whole decimals (digits_value 10 whole) q (digits_value 10 decimals) d.whole_digits d.decimal_digits refl d.power refl in
    rw d.value all
unsigned_below text p q (inr (inr (above, below, split, d))) = (rw d.value.0 (digits_below 21 above d.digits_above), d.limits.0, d.limits.1)

-- ---- the point or the stroke in a numeral

digit_is_no_mark : (d : ℕ) (ds : List ℕ) → AllDigits 10 (d ∷ ds) → is_mark d ≡ false
digit_is_no_mark d ds digits =
    let range = digit_at (d ∷ ds) 0 digits (omega arith) in
    grind (arith, nat_tests)

-- behind digits, the first mark is the first byte that follows them
marked_at : (front rest : List ℕ) (m : ℕ) → AllDigits 10 front → is_mark m ≡ true → position_or_len is_mark (front ++ m ∷ rest) ≡ length front
marked_at [] rest m digits mark = rw mark refl
marked_at (d ∷ front) rest m digits mark = rw (digit_is_no_mark d front digits, marked_at front rest m digits.1 mark) (omega arith)

within : (front rest : List ℕ) (m : ℕ) → length front < length (front ++ m ∷ rest)
within [] rest m = omega arith
within (d ∷ front) rest m = omega (arith, within front rest m)

mark_position : (front rest : List ℕ) (m : ℕ) → AllDigits 10 front → is_mark m ≡ true → position is_mark (front ++ m ∷ rest) ≡ Some (length front)
mark_position front rest m digits mark =
    let tested : nat_lt (length front) (length (front ++ m ∷ rest)) ≡ true = (Decides-ltb (length front) (length (front ++ m ∷ rest))).1
    (within front rest m) in
    rw (marked_at front rest m digits mark) (rw tested refl)

cut_at : (front rest : List ℕ) (m : ℕ) → (take (length front) (front ++ m ∷ rest) ≡ front) × (get_or (front ++ m ∷ rest) (length front) 0 ≡ m)
    × (drop (suc (length front)) (front ++ m ∷ rest) ≡ rest)
cut_at [] rest m = (refl, refl, refl)
cut_at (d ∷ front) rest m = let all = cut_at front rest m in (ap (λ (ds : List ℕ). d ∷ ds) all.0, all.1, all.2)

-- digits, a mark, and what follows it
pub record IsCutAt (text : List ℕ) (place : ℕ) (front : List ℕ) (m : ℕ) (rest : List ℕ) : Type 0 where
  pub front_is : take place text ≡ front
  pub mark_is : get_or text place 0 ≡ m
  pub rest_is : drop (suc place) text ≡ rest

cut_by_mark : (text front rest : List ℕ) (m place : ℕ) → text ≡ front ++ m ∷ rest → AllDigits 10 front → is_mark m ≡ true → position is_mark text ≡ Some place
    → IsCutAt text place front m rest
cut_by_mark text front rest m place split digits mark at =
    let there : position is_mark text ≡ Some (length front) = rw split (mark_position front rest m digits mark) in
    let here : place ≡ length front = cc (at, there) in
    let all = cut_at front rest m in
    rw (split, here) (record { front_is = all.0; mark_is = all.1; rest_is = all.2 })

-- a text with a mark is not all digits
not_all_digits : (text : List ℕ) (place : ℕ) → position is_mark text ≡ Some place → ¬ AllDigits 10 text
not_all_digits text place at digits =
    let found = position-Some is_mark text place 0 at in
    let range = digit_at text place digits found.0 in
    let mark = found.1 in
    let none : is_mark (get_or text place 0) ≡ false = grind (arith, nat_tests) in
    absurd (cc (none, mark))

-- ---- which form a numeral has

-- without a mark it is digits alone
pub digits_alone : (text : List ℕ) (p q : ℕ) → position is_mark text ≡ None → IsUnsigned text p q → SpellsDecimal text [] p q
digits_alone text p q none (inl d) = d
digits_alone text p q none (inr (inl (whole, decimals, split, d))) =
    let there : position is_mark text ≡ Some (length whole) = rw split (mark_position whole decimals 46 d.whole_digits.0 refl) in
    absurd (cc (none, there))
digits_alone text p q none (inr (inr (above, below, split, d))) =
    let there : position is_mark text ≡ Some (length above) = rw split (mark_position above below 47 d.digits_above.0 refl) in
    absurd (cc (none, there))

-- with a point first it is a decimal, and with a stroke first a quotient
pub with_point : (text : List ℕ) (p q place : ℕ) → position is_mark text ≡ Some place → get_or text place 0 ≡ 46 → IsUnsigned text p q
    → SpellsDecimal (take place text) (drop (suc place) text) p q
with_point text p q place at point (inl d) = absurd (not_all_digits text place at d.whole_digits.0)
with_point text p q place at point (inr (inl (whole, decimals, split, d))) =
    let cut = cut_by_mark text whole decimals 46 place split d.whole_digits.0 refl at in
    rw (cut.front_is, cut.rest_is) d
with_point text p q place at point (inr (inr (above, below, split, d))) =
    let cut = cut_by_mark text above below 47 place split d.digits_above.0 refl at in
    let other = cut.mark_is in
    absurd (omega arith)

pub with_stroke : (text : List ℕ) (p q place : ℕ) → position is_mark text ≡ Some place → get_or text place 0 ≢ 46 → IsUnsigned text p q
    → SpellsQuotient (take place text) (drop (suc place) text) p q
with_stroke text p q place at stroke (inl d) = absurd (not_all_digits text place at d.whole_digits.0)
with_stroke text p q place at stroke (inr (inl (whole, decimals, split, d))) =
    let cut = cut_by_mark text whole decimals 46 place split d.whole_digits.0 refl at in
    absurd (stroke cut.mark_is)
with_stroke text p q place at stroke (inr (inr (above, below, split, d))) =
    let cut = cut_by_mark text above below 47 place split d.digits_above.0 refl at in
    rw (cut.front_is, cut.rest_is) d

rejoined : (text : List ℕ) (place : ℕ) → place < length text → text ≡ take place text ++ get_or text place 0 ∷ drop (suc place) text
rejoined [] place lt = absurd (omega arith)
rejoined (b ∷ text) zero lt = refl
rejoined (b ∷ text) (suc place) lt = ap (λ (bs : List ℕ). b ∷ bs) (rejoined text place (omega arith))

-- a quotient around the first mark, which is no point, is a numeral
pub quotient_around : (text : List ℕ) (p q place : ℕ) → position is_mark text ≡ Some place → get_or text place 0 ≢ 46
    → SpellsQuotient (take place text) (drop (suc place) text) p q → IsUnsigned text p q
quotient_around text p q place at other d =
    let found = position-Some is_mark text place 0 at in
    let mark = found.1 in
    let stroke : get_or text place 0 ≡ 47 = grind (arith, nat_tests) in
    let split : text ≡ take place text ++ 47 ∷ drop (suc place) text = rejoined text place found.0
    ∙ ap (λ (b : ℕ). take place text ++ b ∷ drop (suc place) text) stroke in
    inr (inr (take place text, drop (suc place) text, split, d))

-- ---- claims on an answer

pub none_so : {T P Q : Type 0} (o : Option T) → (P → Q) → IfNone o P → IfNone o Q
none_so None f h = f h
none_so (Some x) f h = tt

pub some_so : {T : Type 0} {P Q : T → Type 0} (o : Option T) → ((x : T) → P x → Q x) → IfSome o P → IfSome o Q
some_so None f h = tt
some_so (Some x) f h = f x h

-- what a slice gives from a place on
pub from_place : (text : List ℕ) (place : ℕ) → take (length text - (place + 1)) (drop (place + 1) text) ≡ drop (suc place) text
from_place text place = rw add-one (take_all (length text - suc place) (drop (suc place) text) (omega (arith, length-drop (suc place) text)))
