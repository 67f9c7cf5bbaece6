use Rattle.std.proofs.Common.{◌≡◌, ◌∙◌, ◌⊎◌, inl, inr, cond, ℤ, ◌≤ℤ◌, ◌*ℤ◌, pos, Bool, true, false, ap, sym, subst, arith}
use Rattle.std.proofs.Common.{List, Option, Some, None, MatchOption}
use Rattle.std.specs.Int.{int_div_euclid, int_max, int_min}
use Rattle.std.specs.Option.{option_map}
use Rattle.std.proofs.lemmas.Int.{int_max_is, int_min_is, ints}
use Rattle.fraction128.proofs.LowestLaws.{Fraction-same, fraction_unique}
use Rattle.fraction128.specs.declared.fraction.Fraction.{Fraction}
use Rattle.edit_model.specs.declared.value.Value.{Value}
use Rattle.page_counts.specs.Bins.{IsNarrowest, bins_needed}
use Rattle.page_counts.specs.Numbers.{HaveNoNumber, IsAtLeast, IsAtMost, IsFirstBy, IsGreatest, IsLeast}
use Rattle.page_counts.specs.Thousandths.{thousandths_of}
use Rattle.page_counts.specs.declared.bins.Bins.{Bins}
use Rattle.release_figures.specs.declared.range.Range.{Range}
use Rattle.release_figures.specs.inner.Ranges.{AreBinsOver, AreEndsOf, Ends, IsEnd, ends_of, joined_ends, point_ends}

-- Ranges of numbers, and of the numbers of two columns.

-- ---- the lesser and the greater of two numbers

-- one of two numbers
one_of : (P : ℤ → Type 0) (a b : ℤ) (test : Bool) → P a → P b → P (cond test a b)
one_of P a b true a_is b_is = a_is
one_of P a b false a_is b_is = b_is

pub lesser_of : (P : ℤ → Type 0) (a b : ℤ) → P a → P b → P (int_min a b)
lesser_of P a b a_is b_is = one_of P b a _ b_is a_is

pub greater_of : (P : ℤ → Type 0) (a b : ℤ) → P a → P b → P (int_max a b)
greater_of P a b a_is b_is = one_of P a b _ a_is b_is

lesser_first : (a b t : ℤ) → a ≤ℤ t → int_min a b ≤ℤ t
lesser_first a b t below = omega (arith, ints, int_min_is a b)

lesser_second : (a b t : ℤ) → b ≤ℤ t → int_min a b ≤ℤ t
lesser_second a b t below = omega (arith, ints, int_min_is a b)

greater_first : (a b t : ℤ) → t ≤ℤ a → t ≤ℤ int_max a b
greater_first a b t above = omega (arith, ints, int_max_is a b)

greater_second : (a b t : ℤ) → t ≤ℤ b → t ≤ℤ int_max a b
greater_second a b t above = omega (arith, ints, int_max_is a b)

in_order_lesser : (a b : ℤ) → a ≤ℤ b → int_min a b ≡ a
in_order_lesser a b order = omega (arith, ints, int_min_is a b)

in_order_greater : (a b : ℤ) → a ≤ℤ b → int_max a b ≡ b
in_order_greater a b order = omega (arith, ints, int_max_is a b)

same_place : (a b : ℤ) → a ≤ℤ b → b ≤ℤ a → a ≡ b
same_place a b first second = omega (arith, ints)

at_itself : (a b : ℤ) → a ≡ b → (b ≤ℤ a) × (a ≤ℤ b)
at_itself a b same = (omega (arith, ints), omega (arith, ints))

-- ---- the least and the greatest of some values are one number each

same_number : (x y : Fraction) → IsAtMost x y → IsAtMost y x → x ≡ y
same_number x y first second =
    let unique = fraction_unique x y (same_place (x.numerator *ℤ y.denominator) (y.numerator *ℤ x.denominator) first second) in
    Fraction-same x y unique.0 unique.1

least_same : (x y : Fraction) → IsAtMost x y → IsAtMost y x → x ≡ y
least_same x y first second = same_number x y first second

greatest_same : (x y : Fraction) → IsAtLeast x y → IsAtLeast y x → x ≡ y
greatest_same x y first second = same_number x y second first

-- ---- ranges

-- the thousandths of the first number by an order
record IsEndBy (order : Fraction → Fraction → Type 0) (values : List Value) (t : ℤ) : Type 0 where
  pub number : Fraction
  pub last : IsFirstBy order values number
  pub told : thousandths_of number ≡ Some t

module _ (order : Fraction → Fraction → Type 0) (same : (x y : Fraction) → order x y → order y x → x ≡ y) (values : List Value) where
  told_same : (x : Fraction) → IsFirstBy order values x → (t : ℤ) (end : IsEndBy order values t) → thousandths_of x ≡ Some t
  told_same x is t end =
      let one : x ≡ end.number = same x end.number (is.first end.number end.last.among) (end.last.first x is.among) in
      ap thousandths_of one ∙ end.told

  point_of_told : (x : Fraction) → IsFirstBy order values x → (told : Option ℤ) → thousandths_of x ≡ told
      → AreEndsOf (IsEndBy order values) (option_map (λ t. record { least = t; greatest = t }) told)
  point_of_told x is None untold = λ t end. let apart : None ≡ Some t = sym untold ∙ told_same x is t end in cc
  point_of_told x is (Some s) told =
      let here : IsEndBy order values s = record { number = x; last = is; told = told } in
      (here, here, λ t end. let both : Some t ≡ Some s = sym (told_same x is t end) ∙ told in let one : t ≡ s = cc in at_itself t s one)

  point_is : (number : Option Fraction) → MatchOption number (HaveNoNumber values) (IsFirstBy order values)
      → AreEndsOf (IsEndBy order values) (point_ends number)
  point_is None none = λ t end. none end.number end.last.among
  point_is (Some x) is = point_of_told x is (thousandths_of x) (λ i. thousandths_of x)

-- of the same numbers
same_ends : (P Q : ℤ → Type 0) → ((t : ℤ) → P t → Q t) → ((t : ℤ) → Q t → P t) → (ends : Option Ends) → AreEndsOf P ends → AreEndsOf Q ends
same_ends P Q there back (Some ends) are =
    (there ends.least are.0, there ends.greatest are.1, λ t q. are.2 t (back t q))
same_ends P Q there back None none = λ t q. none t (back t q)

-- of the numbers of two ranges
joined_are : (P Q : ℤ → Type 0) (one other : Option Ends) → AreEndsOf P one → AreEndsOf Q other → AreEndsOf (λ t. P t ⊎ Q t) (joined_ends one other)
joined_are P Q (Some a) (Some b) are be = (
  lesser_of (λ t. P t ⊎ Q t) a.least b.least (inl are.0) (inr be.0),
  greater_of (λ t. P t ⊎ Q t) a.greatest b.greatest (inl are.1) (inr be.1),
  λ t is. elim is [
    | inl p ↦ (lesser_first a.least b.least t (are.2 t p).0, greater_first a.greatest b.greatest t (are.2 t p).1)
    | inr q ↦ (lesser_second a.least b.least t (be.2 t q).0, greater_second a.greatest b.greatest t (be.2 t q).1)
  ],
)
joined_are P Q (Some a) None are none = (inl are.0, inl are.1, λ t is. elim is [ inl p ↦ are.2 t p | inr q ↦ absurd (none t q) ])
joined_are P Q None (Some b) none be = (inr be.0, inr be.1, λ t is. elim is [ inl p ↦ absurd (none t p) | inr q ↦ be.2 t q ])
joined_are P Q None None none neither = λ t is. elim is [ inl p ↦ none t p | inr q ↦ neither t q ]

-- of a column
pub column_ends : (values : List Value) (low high : Option Fraction) → MatchOption low (HaveNoNumber values) (IsLeast values)
    → MatchOption high (HaveNoNumber values) (IsGreatest values) → AreEndsOf (IsEnd values) (joined_ends (point_ends low) (point_ends high))
column_ends values low high low_is high_is =
    same_ends (λ t. IsEndBy IsAtMost values t ⊎ IsEndBy IsAtLeast values t) (IsEnd values) there back (joined_ends (point_ends low) (point_ends high))
    (joined_are (IsEndBy IsAtMost values) (IsEndBy IsAtLeast values) (point_ends low) (point_ends high) (point_is IsAtMost least_same values low low_is)
    (point_is IsAtLeast greatest_same values high high_is))
  where
    there : (t : ℤ) → IsEndBy IsAtMost values t ⊎ IsEndBy IsAtLeast values t → IsEnd values t
    there t (inl end) = record { number = end.number; last = inl end.last; told = end.told }
    there t (inr end) = record { number = end.number; last = inr end.last; told = end.told }

    back_by : (t : ℤ) (x : Fraction) → thousandths_of x ≡ Some t → IsLeast values x ⊎ IsGreatest values x
        → IsEndBy IsAtMost values t ⊎ IsEndBy IsAtLeast values t
    back_by t x told (inl last) = inl (record { number = x; last = last; told = told })
    back_by t x told (inr last) = inr (record { number = x; last = last; told = told })

    back : (t : ℤ) → IsEnd values t → IsEndBy IsAtMost values t ⊎ IsEndBy IsAtLeast values t
    back t end = back_by t end.number end.told end.last

-- of both columns
pub columns_are : (before after : List Value) (one other joined range : Option Range) → AreEndsOf (IsEnd before) (ends_of one)
    → AreEndsOf (IsEnd after) (ends_of other) → ends_of joined ≡ joined_ends (ends_of one) (ends_of other) → joined ≡ range
    → AreEndsOf (λ t. IsEnd before t ⊎ IsEnd after t) (ends_of range)
columns_are before after one other joined range are be both is =
    subst (AreEndsOf (λ t. IsEnd before t ⊎ IsEnd after t)) (sym both ∙ ap ends_of is)
    (joined_are (IsEnd before) (IsEnd after) (ends_of one) (ends_of other) are be)

-- ---- bins

-- from the least to the greatest of a range
pub bins_are : (P : ℤ → Type 0) (ends : Ends) (unit : ℤ) (bins : Bins) → AreEndsOf P (Some ends)
    → IsNarrowest (int_min ends.least ends.greatest) (int_max ends.least ends.greatest) unit bins.width
    → bins.first ≡ int_div_euclid (int_min ends.least ends.greatest) bins.width *ℤ bins.width
    → pos bins.count ≡ bins_needed (int_min ends.least ends.greatest) (int_max ends.least ends.greatest) bins.width
    → AreBinsOver (Some ends) unit (Some bins)
bins_are P ends unit bins are narrowest first count =
    let order = (are.2 ends.least are.0).1 in
    let least = in_order_lesser ends.least ends.greatest order in
    let greatest = in_order_greater ends.least ends.greatest order in (
      subst (λ (a : ℤ). IsNarrowest a ends.greatest unit bins.width) least
          (subst (λ (b : ℤ). IsNarrowest (int_min ends.least ends.greatest) b unit bins.width) greatest narrowest),
      first ∙ ap (λ (a : ℤ). int_div_euclid a bins.width *ℤ bins.width) least,
      count ∙ ap (λ (b : ℤ). bins_needed (int_min ends.least ends.greatest) b bins.width) greatest
          ∙ ap (λ (a : ℤ). bins_needed a ends.greatest bins.width) least,
    )
