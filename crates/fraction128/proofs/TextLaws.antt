use Rattle.std.proofs.Common.{◌≡◌, ◌≢◌, ℕ, zero, suc, ◌<◌, ◌^◌, ℤ, ◌<ℤ◌, lit<, if◌then◌else◌, pos, negsuc, List, ◌∷◌, ◌++◌, length, get_or, Some, refl, sym, ap}
use Rattle.std.proofs.Common.{◌∙◌, Bool, true, false, subst, arith}
use Rattle.std.specs.Prelude.{Result, Ok, Err, OkIff, None}
use Rattle.std.specs.Fmt.{decimal, signed_decimal}
use Rattle.std.specs.Str.{IsAscii}
use Rattle.std.specs.Str.Parse.{AllDigits, digits_value, ParsesSigned}
use Rattle.std.specs.Ordering.{int_cmp, int_eq, is_eq}
use Rattle.std.proofs.lemmas.Bool.Decides.{Decides-int_eq}
use Rattle.std.specs.declared.cmp.Ordering.{Ordering}
use Rattle.std.proofs.lemmas.Fmt.{decimal_is_IsNumeral_wide, IsAscii-decimal_wide}
use Rattle.std.proofs.lemmas.Str.{IsAscii-append}
use Rattle.std.proofs.lemmas.Str.Parse.{IsNumeralModel, numerals_by_value, tells_digits, not_in_digits, parse_signed_digits, parse_signed_minus}
use Rattle.std.proofs.lemmas.Str.Pattern.{IsSplitOnceResult, split_parts, split_after}
use Rattle.std.proofs.lemmas.List.{length-append}
use Rattle.std.proofs.Math.Seq.{get_or-append_seam}
use denote.Ref.{Bor}
use Rattle.std.proofs.lemmas.Cmp.{by_ranked, int_ranked}
use Rattle.std.proofs.lemmas.Int.{ints}
use lib.IntN.{neg_ℤ}
use mir.Syntax.{w128}
use Rattle.fraction128.specs.Range.{InRange}
use Rattle.fraction128.specs.Spelling.{spelling}
use Rattle.fraction128.specs.declared.fraction.Fraction.{Fraction}

-- The spelling of whole numbers in range and of fractions.

-- the numerals of std
numerals : IsNumeralModel (AllDigits 10) (digits_value 10)
numerals = numerals_by_value (AllDigits 10) tells_digits

wide : (n : ℕ) → n < 2 ^ 127 → n < 10 ^ 64
wide n h = omega arith

-- a result that is Ok on a condition, where the condition holds
Ok-met : {T E : Type 0} (r : Result T E) (P : Type 0) (v : T) → OkIff r P v → P → r ≡ Ok v
Ok-met (Ok x) P v h p = ap Ok h.1
Ok-met (Err e) P v h p = absurd (h p)

-- std's `parse` reads a number in range from what it is printed as
pub signed_decimal-read : {E : Type 0} (z : ℤ) (bs : List ℕ) (r : Result ℤ E) → InRange z → signed_decimal z ≡ bs → ParsesSigned w128 10 bs r → r ≡ Ok z
signed_decimal-read (pos n) bs r h e p =
    let is = decimal_is_IsNumeral_wide n (wide n h) in
    let reads = parse_signed_digits numerals w128 (decimal n) r (subst (λ (t : List ℕ). ParsesSigned w128 10 t r) (sym e) p) is.0.1 in
    Ok-met r _ _ reads (is.0.0, rw is.1 h) ∙ ap (λ (k : ℕ). Ok (pos k)) is.1
signed_decimal-read (negsuc n) bs r h e p =
    let is = decimal_is_IsNumeral_wide (suc n) (wide (suc n) h) in
    let reads = parse_signed_minus numerals w128 (45 ∷ decimal (suc n)) r (subst (λ (t : List ℕ). ParsesSigned w128 10 t r) (sym e) p) refl in
    Ok-met r _ _ reads (is.0.1, is.0.0, rw is.1 (omega arith)) ∙ ap (λ (k : ℕ). Ok (neg_ℤ (pos k))) is.1

-- no stroke stands in a number
pub signed_decimal-no_stroke : (z : ℤ) → InRange z → (i : ℕ) → i < length (signed_decimal z) → get_or (signed_decimal z) i 0 ≢ 47
signed_decimal-no_stroke (pos n) h i b =
    not_in_digits numerals (decimal n) 47 (decimal_is_IsNumeral_wide n (wide n h)).0.1 (λ p. omega arith) i b
signed_decimal-no_stroke (negsuc n) h zero b = λ e. absurd (omega arith)
signed_decimal-no_stroke (negsuc n) h (suc i) b =
    not_in_digits numerals (decimal (suc n)) 47 (decimal_is_IsNumeral_wide (suc n) (wide (suc n) h)).0.1 (λ p. omega arith) i (omega arith)

-- numbers and fractions are spelled in ASCII
pub signed_decimal-ascii : (z : ℤ) → InRange z → IsAscii (signed_decimal z)
signed_decimal-ascii (pos n) h i = IsAscii-decimal_wide n (wide n h) i
signed_decimal-ascii (negsuc n) h zero = lit< tt
signed_decimal-ascii (negsuc n) h (suc i) = IsAscii-decimal_wide (suc n) (wide (suc n) h) i

-- a fraction is spelled as its numerator, or as both numbers with a stroke between them
pub by_denominator : {G : Type 0} (x : Fraction) (bs : List ℕ) → spelling x ≡ bs → (x.denominator ≡ pos 1 → signed_decimal x.numerator ≡ bs → G)
    → (x.denominator ≢ pos 1 → signed_decimal x.numerator ++ (47 ∷ signed_decimal x.denominator) ≡ bs → G) → G
by_denominator x bs e whole parts =
    let o = int_cmp x.denominator (pos 1) in
    by_ranked (x.denominator <ℤ pos 1) (x.denominator ≡ pos 1) (pos 1 <ℤ x.denominator) o (int_ranked x.denominator (pos 1) o refl)
    (λ is h. parts (λ one. omega (arith, ints)) (sym (ap choice is) ∙ e))
    (λ is h. whole h (sym (ap choice is) ∙ e))
    (λ is h. parts (λ one. omega (arith, ints)) (sym (ap choice is) ∙ e))
  where
    choice : Ordering → List ℕ
    choice o = if is_eq o then signed_decimal x.numerator else signed_decimal x.numerator ++ (47 ∷ signed_decimal x.denominator)

pub spelling-ascii : (x : Fraction) → IsAscii (spelling x)
spelling-ascii x =
    by_denominator x (spelling x) refl
    (λ one e. subst IsAscii e (signed_decimal-ascii x.numerator x.numerator_in_range))
    (λ more e. subst IsAscii e (IsAscii-append (signed_decimal x.numerator) (47 ∷ signed_decimal x.denominator)
    (signed_decimal-ascii x.numerator x.numerator_in_range) after_stroke))
  where
    after_stroke : IsAscii (47 ∷ signed_decimal x.denominator)
    after_stroke zero = lit< tt
    after_stroke (suc i) = signed_decimal-ascii x.denominator x.denominator_in_range i

-- ---- a text that is split at its first stroke

-- a text without a stroke spells no fraction but a whole number
pub spelled_whole : (x : Fraction) (bs : List ℕ) → spelling x ≡ bs → IsSplitOnceResult 47 bs None → (x.denominator ≡ pos 1) × (signed_decimal x.numerator ≡ bs)
spelled_whole x bs e split =
    by_denominator x bs e (λ one is. (one, is))
    (λ more is. absurd (split_parts 47 bs None split (lit< tt) (length (signed_decimal x.numerator)) (stroke_within is) (stroke_at is)))
  where
    stroke_within : signed_decimal x.numerator ++ (47 ∷ signed_decimal x.denominator) ≡ bs → length (signed_decimal x.numerator) < length bs
    stroke_within is = omega (arith, length-append (signed_decimal x.numerator) (47 ∷ signed_decimal x.denominator), ap length is)

    stroke_at : signed_decimal x.numerator ++ (47 ∷ signed_decimal x.denominator) ≡ bs → get_or bs (length (signed_decimal x.numerator)) 0 ≡ 47
    stroke_at is = rw (← is) (get_or-append_seam (signed_decimal x.numerator) 47 (signed_decimal x.denominator) 0)

-- a text with a stroke spells a fraction by its two parts
pub spelled_parts : (x : Fraction) (bs : List ℕ) (above below : Bor (List ℕ)) → spelling x ≡ bs → IsSplitOnceResult 47 bs (Some (above, below))
    → (x.denominator ≢ pos 1) × (signed_decimal x.numerator ≡ above.now) × (signed_decimal x.denominator ≡ below.now)
spelled_parts x bs above below e split =
    by_denominator x bs e
    (λ one is. absurd (unlike is (split_parts 47 bs (Some (above, below)) split (lit< tt)).0))
    (λ more is.
    let parts = split_after 47 bs (signed_decimal x.numerator) (signed_decimal x.denominator) (Some (above, below)) split (lit< tt) (sym is)
    (signed_decimal-no_stroke x.numerator x.numerator_in_range) in
    (more, sym parts.0, sym parts.1))
  where
    unlike : signed_decimal x.numerator ≡ bs → bs ≡ above.now ++ (47 ∷ below.now) → ⊥
    unlike is parts =
        let same : signed_decimal x.numerator ≡ above.now ++ (47 ∷ below.now) = is ∙ parts in
        let within : length above.now < length (signed_decimal x.numerator) = omega (arith, length-append above.now (47 ∷ below.now), ap length same) in
        signed_decimal-no_stroke x.numerator x.numerator_in_range (length above.now) within
        (ap (λ (t : List ℕ). get_or t (length above.now) 0) same ∙ get_or-append_seam above.now 47 below.now 0)

-- the spelling by the denominator, the other way round
pub spelling-whole : (x : Fraction) → x.denominator ≡ pos 1 → spelling x ≡ signed_decimal x.numerator
spelling-whole x one = by_denominator x (spelling x) refl (λ _ is. sym is) (λ more is. absurd (more one))

pub spelling-parts : (x : Fraction) → x.denominator ≢ pos 1 → spelling x ≡ signed_decimal x.numerator ++ (47 ∷ signed_decimal x.denominator)
spelling-parts x more = by_denominator x (spelling x) refl (λ one is. absurd (more one)) (λ _ is. sym is)

-- the spelling of a whole number, and that of another fraction
pub spelled-whole : (x : Fraction) → x.denominator ≡ pos 1 → signed_decimal x.numerator ≡ spelling x
spelled-whole x whole = sym (ap (λ b. if b then signed_decimal x.numerator else signed_decimal x.numerator ++ 47 ∷ signed_decimal x.denominator)
    ((Decides-int_eq x.denominator (pos 1)).1 whole))

pub spelled-quotient : (x : Fraction) → x.denominator ≢ pos 1 → signed_decimal x.numerator ++ 47 ∷ signed_decimal x.denominator ≡ spelling x
spelled-quotient x broken = by (int_eq x.denominator (pos 1)) refl
  where
    by : (b : Bool) → int_eq x.denominator (pos 1) ≡ b → signed_decimal x.numerator ++ 47 ∷ signed_decimal x.denominator
        ≡ (if b then signed_decimal x.numerator else signed_decimal x.numerator ++ 47 ∷ signed_decimal x.denominator)
    by true is = absurd (broken ((Decides-int_eq x.denominator (pos 1)).0 is))
    by false is = refl
