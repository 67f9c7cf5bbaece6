use Rattle.std.proofs.Common.{◌≡◌, ℕ, ◌*◌, ◌<◌, ◌≤◌, ◌^◌, Bool, true, false, if◌then◌else◌, List, [], ◌∷◌, pos, unsigned_abs, refl, sym, ap, ◌∙◌, subst, Result}
use Rattle.std.proofs.Common.{Ok, Err, arith}
use lib.IntN.{neg_ℤ}
use Rattle.std.specs.Int.{IsGcd, ◌∣◌}
use Rattle.std.specs.List.{AllByRecursion}
use Rattle.std.specs.Result.{IfOk}
use Rattle.std.proofs.Math.Nat.{dvd-mul_left, le_of_mul-le-mul_right, mul-le-mul_left}
use Rattle.std.proofs.lemmas.Int.{ints, unsigned_abs-mul}
use Rattle.std.proofs.lemmas.Nat.Gcd.{IsGcd-swap, le_of_dvd}
use Rattle.fraction128.proofs.DivisorLaws.{unsigned_abs-above}
use Rattle.fraction128.proofs.LowestLaws.{coprime-divides}
use Rattle.fraction128.specs.declared.fraction.Fraction.{Fraction}
use Rattle.edit_model.specs.PlainNumbers.{HasPlainNumbers, IsPlain, IsPlainValue}
use Rattle.edit_model.specs.declared.field.Field.{Field}
use Rattle.edit_model.specs.declared.field.Kind.{Kind}
use Rattle.edit_model.specs.declared.field.Kind.TheVariants as kind
use Rattle.edit_model.specs.declared.value.Value.{Value}
use Rattle.edit_model.specs.declared.value.Value.TheVariants.{Code, Number, Bad}
use Rattle.record_text.specs.Numerals.{IsNumeral, has_minus, without_sign}
use Rattle.record_text.specs.Sheets.{IsSheet, SheetParts}
use Rattle.record_text.specs.Values.{AreRows, AreValues, IsValueText}
use Rattle.record_text.specs.declared.fault.SheetFault.{SheetFault}
use Rattle.record_text.proofs.NumeralLaws.{unsigned_below}

-- The numbers that the numerals of a record file spell are plain.

signed_size : (minus : Bool) (n : ℕ) → unsigned_abs (if minus then neg_ℤ (pos n) else pos n) ≡ n
signed_size true n = omega (arith, ints)
signed_size false n = refl

-- lowest terms are at most any other terms
lowest_few : (a b n d : ℕ) → IsGcd a b 1 → 1 ≤ b → 1 ≤ d → a * d ≡ n * b → (a ≤ n) × (b ≤ d)
lowest_few a b n d coprime b_some d_some same = (first, second)
  where
    divides : b ∣ a * d
    divides = subst (λ n. b ∣ n) (sym same) (dvd-mul_left b n)

    second : b ≤ d
    second = le_of_dvd d_some (coprime-divides b a d (IsGcd-swap a b 1 coprime) divides)

    first : a ≤ n
    first = le_of_mul-le-mul_right (let more = mul-le-mul_left n second in omega (arith, same, more)) d_some

pub numeral_plain : (text : List ℕ) (x : Fraction) → IsNumeral text x → IsPlain x
numeral_plain text x n =
    let bounds = unsigned_below (without_sign text) n.numerator n.denominator n.spelled in
    let sizes : unsigned_abs x.numerator * n.denominator ≡ n.numerator * unsigned_abs x.denominator =
    sym (unsigned_abs-mul x.numerator (pos n.denominator)) ∙ ap unsigned_abs n.value
    ∙ unsigned_abs-mul (if has_minus text then neg_ℤ (pos n.numerator) else pos n.numerator) x.denominator
    ∙ ap (λ m. m * unsigned_abs x.denominator) (signed_size (has_minus text) n.numerator) in
    let few = lowest_few (unsigned_abs x.numerator) (unsigned_abs x.denominator) n.numerator n.denominator x.reduced
    (unsigned_abs-above x.denominator x.positive) bounds.1 sizes in
    (below (unsigned_abs x.numerator) n.numerator few.0 bounds.0, most (unsigned_abs x.denominator) n.denominator few.1 bounds.2)
  where
    below : (a n : ℕ) → a ≤ n → n < 10 ^ 21 → a < 10 ^ 21
    below a n p q = omega (arith, p, q)

    most : (b d : ℕ) → b ≤ d → d ≤ 1000000 → b ≤ 10 ^ 6
    most b d p q = omega (arith, p, q)

value_plain : (k : Kind) (text : List ℕ) (v : Value) → IsValueText k text v → IsPlainValue v
value_plain (kind.Number scale) text (Number x) is = numeral_plain _ x is
value_plain (kind.Code codes) text (Number x) is = absurd is
value_plain k text (Code c) is = tt
value_plain k text Bad is = tt

values_plain : (fields : List Field) (columns : List ℕ) (raw : List (List ℕ)) (values : List Value) → AreValues fields columns raw values
    → HasPlainNumbers values
values_plain [] [] raw [] are = tt
values_plain [] [] raw (v ∷ values) are = absurd are
values_plain [] (column ∷ columns) raw values are = absurd are
values_plain (field ∷ fields) [] raw values are = absurd are
values_plain (field ∷ fields) (column ∷ columns) raw [] are = absurd are
values_plain (field ∷ fields) (column ∷ columns) raw (v ∷ values) are = (value_plain field.kind _ v are.0, values_plain fields columns raw values are.1)

-- the numbers of a sheet are plain
pub rows_plain : (fields : List Field) (columns : List ℕ) (row_texts : List (List (List ℕ))) (rows : List (List Value)) → AreRows fields columns row_texts rows
    → AllByRecursion HasPlainNumbers rows
rows_plain fields columns [] [] are = tt
rows_plain fields columns [] (row ∷ rows) are = absurd are
rows_plain fields columns (raw ∷ row_texts) [] are = absurd are
rows_plain fields columns (raw ∷ row_texts) (row ∷ rows) are = (values_plain fields columns raw row are.0, rows_plain fields columns row_texts rows are.1)

pub plain_by_sheet : (fields : List Field) (bytes : List ℕ) (r : Result SheetParts SheetFault) → IfOk r (λ sheet. IsSheet fields bytes sheet)
    → IfOk r (λ sheet. AllByRecursion HasPlainNumbers sheet.rows)
plain_by_sheet fields bytes (Ok sheet) is = rows_plain fields sheet.columns sheet.row_texts sheet.rows is.values
plain_by_sheet fields bytes (Err e) is = tt
