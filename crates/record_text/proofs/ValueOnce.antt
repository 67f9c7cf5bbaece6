-- A text stands for one value at most.
use Rattle.std.proofs.Common.{◌≡◌, ◌≢◌, ◌∙◌, sym, ap, refl, ℕ, ◌==◌, List, [], ◌∷◌, Option, Some, None, get_or, take, drop, suc, position, true, false, Bool}
use Rattle.std.proofs.Common.{pos, ◌<ℤ◌, arith}
use Rattle.std.proofs.lemmas.Bool.Decides.{nat_tests}
use Rattle.std.proofs.lemmas.Int.{ints}
use Rattle.edit_model.specs.declared.field.Field.{Field}
use Rattle.edit_model.specs.declared.field.Kind.{Kind}
use Rattle.edit_model.specs.declared.field.Kind.TheVariants as kind
use Rattle.edit_model.specs.declared.value.Value.{Value}
use Rattle.edit_model.specs.declared.value.Value.TheVariants.{Code, Number, Bad}
use Rattle.fraction128.proofs.CommonDenominator.{IsOver-unique}
use Rattle.fraction128.proofs.LowestLaws.{Fraction-same}
use Rattle.fraction128.specs.declared.fraction.Fraction.{Fraction}
use Rattle.record_text.specs.inner.Marks.{signed}
use Rattle.record_text.specs.Numerals.{SpellsDecimal, IsNumeral, SpellsQuotient, IsUnsigned, has_minus, without_sign}
use Rattle.record_text.specs.inner.Marks.{is_mark}
use Rattle.record_text.specs.Trimming.{trimmed}
use Rattle.record_text.specs.Values.{AreRows, AreValues, IsValueText}
use Rattle.record_text.proofs.NumeralLaws.{digits_alone, unsigned_below, with_point, with_stroke}

-- ---- a numeral

decimal_once : (whole decimals : List ℕ) (p q r s : ℕ) → SpellsDecimal whole decimals p q → SpellsDecimal whole decimals r s → (p ≡ r) × (q ≡ s)
decimal_once whole decimals p q r s first second =
    let below : q ≡ s = first.power ∙ sym second.power in
    let above : p ≡ r = cc (first.value, second.value, below) in
    (above, below)

quotient_once : (above below : List ℕ) (p q r s : ℕ) → SpellsQuotient above below p q → SpellsQuotient above below r s → (p ≡ r) × (q ≡ s)
quotient_once above below p q r s first second = (first.value.0 ∙ sym second.value.0, first.value.1 ∙ sym second.value.1)

by_mark : (text : List ℕ) (p q r s place : ℕ) (b : Bool) → (get_or text place 0 == 46) ≡ b → position is_mark text ≡ Some place → IsUnsigned text p q
    → IsUnsigned text r s → (p ≡ r) × (q ≡ s)
by_mark text p q r s place true point at first second =
    let here : get_or text place 0 ≡ 46 = grind (arith, nat_tests) in
    decimal_once (take place text) (drop (suc place) text) p q r s (with_point text p q place at here first) (with_point text r s place at here second)
by_mark text p q r s place false other at first second =
    let elsewise : get_or text place 0 ≢ 46 = λ same. grind (arith, nat_tests) in
    quotient_once (take place text) (drop (suc place) text) p q r s (with_stroke text p q place at elsewise first)
    (with_stroke text r s place at elsewise second)

by_place : (text : List ℕ) (p q r s : ℕ) (o : Option ℕ) → position is_mark text ≡ o → IsUnsigned text p q → IsUnsigned text r s → (p ≡ r) × (q ≡ s)
by_place text p q r s None at first second = decimal_once text [] p q r s (digits_alone text p q at first) (digits_alone text r s at second)
by_place text p q r s (Some place) at first second = by_mark text p q r s place (get_or text place 0 == 46) refl at first second

pub numeral_once : (text : List ℕ) (x y : Fraction) → IsNumeral text x → IsNumeral text y → x ≡ y
numeral_once text x y first second =
    let digits = without_sign text in
    let same = by_place digits first.numerator first.denominator second.numerator second.denominator
    (position is_mark digits) refl first.spelled second.spelled in
    let sizes = unsigned_below digits first.numerator first.denominator first.spelled in
    let positive : pos 0 <ℤ pos first.denominator = omega (arith, ints, sizes.1) in
    let other = rw (← same.0, ← same.1) at second.value in
    let parts = IsOver-unique x y (signed (has_minus text) first.numerator) (pos first.denominator) positive first.value other in
    Fraction-same x y parts.0 parts.1

-- ---- values

-- a field's text has one value
pub value_once : (k : Kind) (text : List ℕ) (v w : Value) → IsValueText k text v → IsValueText k text w → v ≡ w
value_once (kind.Number scale) text (Number x) (Number y) is other = ap (λ (z : Fraction). Number z) (numeral_once (trimmed text) x y is other)
value_once (kind.Number scale) text (Number x) (Code d) is other = absurd other
value_once (kind.Number scale) text (Number x) Bad is other = absurd (other x is)
value_once (kind.Number scale) text (Code c) w is other = absurd is
value_once (kind.Number scale) text Bad (Number y) is other = absurd (is y other)
value_once (kind.Number scale) text Bad (Code d) is other = absurd other
value_once (kind.Number scale) text Bad Bad is other = refl
value_once (kind.Code codes) text (Number x) w is other = absurd is
value_once (kind.Code codes) text (Code c) (Number y) is other = absurd other
value_once (kind.Code codes) text (Code c) (Code d) is other = let same : c ≡ d = cc (is, other) in ap (λ (e : ℕ). Code e) same
value_once (kind.Code codes) text (Code c) Bad is other = absurd (cc (is, other))
value_once (kind.Code codes) text Bad (Number y) is other = absurd other
value_once (kind.Code codes) text Bad (Code d) is other = absurd (cc (is, other))
value_once (kind.Code codes) text Bad Bad is other = refl

-- and so have the texts of a row, and of all rows
pub values_once : (fields : List Field) (columns : List ℕ) (raw : List (List ℕ)) (v w : List Value) → AreValues fields columns raw v
    → AreValues fields columns raw w → v ≡ w
values_once [] [] raw [] [] is other = refl
values_once [] [] raw [] (y ∷ w) is other = absurd other
values_once [] [] raw (x ∷ v) w is other = absurd is
values_once [] (c ∷ columns) raw v w is other = absurd is
values_once (f ∷ fields) [] raw v w is other = absurd is
values_once (f ∷ fields) (c ∷ columns) raw [] w is other = absurd is
values_once (f ∷ fields) (c ∷ columns) raw (x ∷ v) [] is other = absurd other
values_once (f ∷ fields) (c ∷ columns) raw (x ∷ v) (y ∷ w) is other =
    let first = value_once f.kind (get_or raw c []) x y is.0 other.0 in
    let rest = values_once fields columns raw v w is.1 other.1 in
    cc (first, rest)

pub rows_once : (fields : List Field) (columns : List ℕ) (row_texts : List (List (List ℕ))) (a b : List (List Value)) → AreRows fields columns row_texts a
    → AreRows fields columns row_texts b → a ≡ b
rows_once fields columns [] [] [] is other = refl
rows_once fields columns [] [] (y ∷ b) is other = absurd other
rows_once fields columns [] (x ∷ a) b is other = absurd is
rows_once fields columns (raw ∷ row_texts) [] b is other = absurd is
rows_once fields columns (raw ∷ row_texts) (x ∷ a) [] is other = absurd other
rows_once fields columns (raw ∷ row_texts) (x ∷ a) (y ∷ b) is other =
    let first = values_once fields columns raw x y is.0 other.0 in
    let rest = rows_once fields columns row_texts a b is.1 other.1 in
    cc (first, rest)
