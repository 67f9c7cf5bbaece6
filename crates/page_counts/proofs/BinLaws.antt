-- Where bins begin and end, and how many are needed.
use Rattle.std.proofs.Common.{◌≡◌, ◌≢◌, ◌∙◌, ◌==◌, ℕ, ◌+◌, ◌*◌, ◌/◌, ◌^◌, ◌<◌, ◌≤◌, ℤ, pos, negsuc, ◌+ℤ◌, ◌-ℤ◌, ◌*ℤ◌, ◌≤ℤ◌, ◌<ℤ◌, unsigned_abs}
use Rattle.std.proofs.Common.{◌&&◌, int_le, int_lt, cond, Bool, true, false, FitsSigned, refl, sym, ap, subst, arith}
use Rattle.std.proofs.Common.{List, [], ◌∷◌, ◌++◌, map, not, Option}
use Rattle.std.specs.Int.{int_div_euclid, int_max, int_min}
use Rattle.std.specs.List.{count_by, range_with_len}
use Rattle.std.proofs.lemmas.Bool.Decides.{nat_tests}
use Rattle.std.proofs.lemmas.Int.{ints}
use Rattle.std.proofs.lemmas.List.Folds.{fold-map}
use Rattle.std.proofs.lemmas.List.FromFn.{map-range_with_len_more}
use Rattle.std.proofs.lemmas.List.Sums.{sum_by-cons}
use lib.IntN.{neg_ℤ}
use Rattle.fraction128.proofs.Signs.{at_most_cancel, below_cancel}
use Rattle.fraction128.proofs.Whole.{parts, ring, same_dif}
use Rattle.std.proofs.Math.Nat.{one-le-pow, pow-le-pow_right}
use mir.Syntax.{w128}
use Rattle.edit_model.specs.declared.value.Value.{Value}
use Rattle.edit_model.specs.declared.value.Value.TheVariants.{Bad, Code, Number}
use Rattle.page_counts.specs.Bins.{IsNarrowest, bin_low, bins_needed, is_between, is_in_bin, is_beyond, reaches, round_width}
use Rattle.page_counts.specs.Rules.{is_number}
use Rattle.page_counts.specs.Thousandths.{thousandths_at, thousandths_of}
use Rattle.page_counts.specs.declared.bins.Bins.{Bins}

-- ---- a quotient that is rounded down, and the next one

pub quotient_low : (z w : ℤ) → pos 0 <ℤ w → (int_div_euclid z w *ℤ w) ≤ℤ z
quotient_low z (negsuc n) wide = absurd wide.lt
quotient_low (pos a) (pos n) wide = omega (arith, ints)
quotient_low (negsuc a) (pos n) wide = omega (arith, ints, wide)

pub quotient_high : (z w : ℤ) → pos 0 <ℤ w → z <ℤ ((int_div_euclid z w +ℤ pos 1) *ℤ w)
quotient_high z (negsuc n) wide = absurd wide.lt
quotient_high (pos a) (pos n) wide = omega (arith, ints, wide)
quotient_high (negsuc a) (pos n) wide = rw (next_is (a / n), negative_is (pos (a / n)) (pos n)) (below (a / n * n) (omega arith))
  where
    next_is : (q : ℕ) → negsuc q +ℤ pos 1 ≡ neg_ℤ (pos q)
    next_is q = omega (arith, ints)

    negative_is : (y z : ℤ) → neg_ℤ y *ℤ z ≡ neg_ℤ (y *ℤ z)
    negative_is y z = rw (parts y, parts z) (simp ring (same_dif _ _ _ _ (omega arith)))

    below : (p : ℕ) → p ≤ a → negsuc a <ℤ neg_ℤ (pos p)
    below p le = omega (arith, ints)

one_more : (q w : ℤ) → (q +ℤ pos 1) *ℤ w ≡ q *ℤ w +ℤ w
one_more q w = rw (parts q, parts w) (simp ring (same_dif _ _ _ _ (omega arith)))

-- where the bin of a number begins
pub first_small : (z w : ℤ) → pos 0 <ℤ w → unsigned_abs z ≤ 10 ^ 36 → unsigned_abs w ≤ 5 * 10 ^ 36 → unsigned_abs (int_div_euclid z w *ℤ w) ≤ 10 ^ 37
first_small z w wide small narrow =
    by (int_div_euclid z w *ℤ w) (quotient_low z w wide) (subst (λ (y : ℤ). z <ℤ y) (one_more (int_div_euclid z w) w) (quotient_high z w wide))
  where
    by : (p : ℤ) → p ≤ℤ z → z <ℤ (p +ℤ w) → unsigned_abs p ≤ 10 ^ 37
    by p low high = omega (arith, ints, small, narrow, low, high)

-- ---- how many bins are needed

module _ (least greatest w : ℤ) (wide : pos 0 <ℤ w) where
  pub needed_some : least ≤ℤ greatest → pos 1 ≤ℤ bins_needed least greatest w
  needed_some order =
      by (int_div_euclid least w) (int_div_euclid greatest w) (below_cancel (int_div_euclid least w) (int_div_euclid greatest w +ℤ pos 1) w wide
      (between (int_div_euclid least w *ℤ w) ((int_div_euclid greatest w +ℤ pos 1) *ℤ w) (quotient_low least w wide) (quotient_high greatest w wide)))
    where
      between : (p q : ℤ) → p ≤ℤ least → greatest <ℤ q → p <ℤ q
      between p q low high = omega (arith, ints, low, high, order)

      by : (p q : ℤ) → p <ℤ (q +ℤ pos 1) → pos 1 ≤ℤ ((q -ℤ p) +ℤ pos 1)
      by p q below = omega (arith, ints, below)

  -- bins of a width that no number exceeds in size
  pub needed_few : unsigned_abs least ≤ unsigned_abs w → unsigned_abs greatest ≤ unsigned_abs w → bins_needed least greatest w ≤ℤ pos 20
  needed_few low high =
      by (int_div_euclid least w) (int_div_euclid greatest w)
      (below_cancel (negsuc 0) (int_div_euclid least w +ℤ pos 1) w wide
      (under (negsuc 0 *ℤ w) ((int_div_euclid least w +ℤ pos 1) *ℤ w) (turned w) (quotient_high least w wide)))
      (at_most_cancel (int_div_euclid greatest w) (pos 1) w wide
      (over (int_div_euclid greatest w *ℤ w) (pos 1 *ℤ w) (itself w) (quotient_low greatest w wide)))
    where
      turned : (z : ℤ) → negsuc 0 *ℤ z ≡ neg_ℤ z
      turned z = rw (parts z) (simp ring (same_dif _ _ _ _ (omega arith)))

      itself : (z : ℤ) → pos 1 *ℤ z ≡ z
      itself z = rw (parts z) (simp ring (same_dif _ _ _ _ (omega arith)))

      under : (p q : ℤ) → p ≡ neg_ℤ w → least <ℤ q → p <ℤ q
      under p q is above = omega (arith, ints, is, above, low, wide)

      over : (p q : ℤ) → q ≡ w → p ≤ℤ greatest → p ≤ℤ q
      over p q is below = omega (arith, ints, is, below, high, wide)

      by : (p q : ℤ) → negsuc 0 <ℤ (p +ℤ pos 1) → q ≤ℤ pos 1 → ((q -ℤ p) +ℤ pos 1) ≤ℤ pos 20
      by p q first second = omega (arith, ints, first, second)

  -- ---- the numbers are in the bins

  module _ (first : ℤ) (n : ℕ) (begins : first ≡ int_div_euclid least w *ℤ w) (many : pos n ≡ bins_needed least greatest w) where
    pub first_low : (first +ℤ pos 0 *ℤ w) ≤ℤ least
    first_low = by (int_div_euclid least w *ℤ w) (quotient_low least w wide) begins
      where
        none : (z : ℤ) → pos 0 *ℤ z ≡ pos 0
        none z = rw (parts z) (simp ring (same_dif _ _ _ _ (omega arith)))

        by : (p : ℤ) → p ≤ℤ least → first ≡ p → (first +ℤ pos 0 *ℤ w) ≤ℤ least
        by p low is = rw (none w, is) (omega (arith, ints, low))

    pub last_high : greatest <ℤ (first +ℤ pos n *ℤ w)
    last_high = subst (λ (z : ℤ). greatest <ℤ z) (sym (rw (begins, many) (sum_is (int_div_euclid least w) (int_div_euclid greatest w) w)))
        (quotient_high greatest w wide)
      where
        sum_is : (p q z : ℤ) → p *ℤ z +ℤ ((q -ℤ p) +ℤ pos 1) *ℤ z ≡ (q +ℤ pos 1) *ℤ z
        sum_is p q z = rw (parts p, parts q, parts z) (simp ring (same_dif _ _ _ _ (omega arith)))

    pub least_within : least ≤ℤ greatest → ((first +ℤ pos 0 *ℤ w) ≤ℤ least) × (least <ℤ (first +ℤ pos n *ℤ w))
    least_within order = (first_low, by (first +ℤ pos n *ℤ w) last_high)
      where
        by : (z : ℤ) → greatest <ℤ z → least <ℤ z
        by z high = omega (arith, ints, high, order)

    pub greatest_within : least ≤ℤ greatest → ((first +ℤ pos 0 *ℤ w) ≤ℤ greatest) × (greatest <ℤ (first +ℤ pos n *ℤ w))
    greatest_within order = (by (first +ℤ pos 0 *ℤ w) first_low, last_high)
      where
        by : (z : ℤ) → z ≤ℤ least → z ≤ℤ greatest
        by z low = omega (arith, ints, low, order)

-- ---- a width that reaches

pub few_by_reach : (least greatest unit w : ℤ) → reaches least greatest unit w ≡ true → bins_needed least greatest w ≤ℤ pos 20
few_by_reach least greatest unit w is = by (int_le unit w) (bins_needed least greatest w) is
  where
    by : (b : Bool) (n : ℤ) → (b && int_le n (pos 20)) ≡ true → n ≤ℤ pos 20
    by true n is = omega (arith, ints, is)
    by false n is = absurd (cc is)

module _ (least greatest unit : ℤ) where
  -- no step before the next one
  pub none_before : (step : ℕ) → ((k : ℕ) → k < step → reaches least greatest unit (round_width k) ≡ false)
      → reaches least greatest unit (round_width step) ≡ false → (k : ℕ) → k < step + 1 → reaches least greatest unit (round_width k) ≡ false
  none_before step before here k below = by (k == step) refl
    where
      by : (b : Bool) → (k == step) ≡ b → reaches least greatest unit (round_width k) ≡ false
      by true is =
          let same : k ≡ step = grind (arith, nat_tests) in
          ap (λ n. reaches least greatest unit (round_width n)) same ∙ here
      by false is =
          let other : k ≢ step = grind (arith, nat_tests) in
          before k (omega (arith, below, other))

  pub narrowest_at : (step : ℕ) (w : ℤ) → ((k : ℕ) → k < step → reaches least greatest unit (round_width k) ≡ false) → w ≡ round_width step
      → reaches least greatest unit w ≡ true → IsNarrowest least greatest unit w
  narrowest_at step w before is reaching = record { step = step; is = is; reaching = reaching; narrower = before }

  -- the widest bins reach
  pub widest_reaches : (w : ℤ) → w ≡ pos (10 ^ 36) → unsigned_abs least ≤ 10 ^ 36 → unsigned_abs greatest ≤ 10 ^ 36 → unsigned_abs unit ≤ 10 ^ 36
      → reaches least greatest unit w ≡ true
  widest_reaches w is low high small =
      both (bins_needed least greatest w) (under unit w is small)
      (needed_few least greatest w (positive w is) (size least w is low) (size greatest w is high))
    where
      tested : (y z : ℤ) (b : Bool) → int_le y z ≡ b → y ≤ℤ z → b ≡ true
      tested y z true is order = refl
      tested y z false is order = absurd (omega (arith, ints, is, order))

      in_order : (y z : ℤ) → z ≡ pos (10 ^ 36) → unsigned_abs y ≤ 10 ^ 36 → y ≤ℤ z
      in_order y z e h = omega (arith, ints, e, h)

      under : (y z : ℤ) → z ≡ pos (10 ^ 36) → unsigned_abs y ≤ 10 ^ 36 → int_le y z ≡ true
      under y z e h = tested y z (int_le y z) refl (in_order y z e h)

      positive : (z : ℤ) → z ≡ pos (10 ^ 36) → pos 0 <ℤ z
      positive z e = omega (arith, ints, e)

      size : (y z : ℤ) → z ≡ pos (10 ^ 36) → unsigned_abs y ≤ 10 ^ 36 → unsigned_abs y ≤ unsigned_abs z
      size y z e h = omega (arith, ints, e, h)

      fits : (n : ℤ) → n ≤ℤ pos 20 → int_le n (pos 20) ≡ true
      fits n h = tested n (pos 20) (int_le n (pos 20)) refl h

      both : (n : ℤ) → int_le unit w ≡ true → n ≤ℤ pos 20 → (int_le unit w && int_le n (pos 20)) ≡ true
      both n first second = ap (λ b. b && int_le n (pos 20)) first ∙ fits n second

-- ---- the lesser and the greater of two numbers

pub int_min_first : (x y : ℤ) → x ≤ℤ y → int_min x y ≡ x
int_min_first x y order = by (int_lt y x) refl
  where
    by : (b : Bool) → int_lt y x ≡ b → cond b y x ≡ x
    by true is = absurd (omega (arith, ints, is, order))
    by false is = refl

pub int_max_first : (x y : ℤ) → x ≤ℤ y → int_max x y ≡ y
int_max_first x y order = by (int_lt y x) refl
  where
    by : (b : Bool) → int_lt y x ≡ b → cond b x y ≡ y
    by true is = absurd (omega (arith, ints, is, order))
    by false is = refl

pub int_min_second : (x y : ℤ) → y <ℤ x → int_min x y ≡ y
int_min_second x y order = by (int_lt y x) refl
  where
    by : (b : Bool) → int_lt y x ≡ b → cond b y x ≡ y
    by true is = refl
    by false is = absurd (omega (arith, ints, is, order))

pub int_max_second : (x y : ℤ) → y <ℤ x → int_max x y ≡ x
int_max_second x y order = by (int_lt y x) refl
  where
    by : (b : Bool) → int_lt y x ≡ b → cond b x y ≡ x
    by true is = refl
    by false is = absurd (omega (arith, ints, is, order))

-- ---- what fits

pub fits_small : (z : ℤ) → unsigned_abs z ≤ 10 ^ 37 → FitsSigned w128 z
fits_small (pos n) small = record { sfits = omega (arith, small) }
fits_small (negsuc n) small = record { sfits = omega (arith, small) }

pub power_small : (e : ℕ) → e ≤ 36 → 10 ^ e ≤ 10 ^ 36
power_small e low = pow-le-pow_right {n = 10} (omega arith) low

pub power_some : (e : ℕ) → 1 ≤ 10 ^ e
power_some e = one-le-pow e 10 (omega arith)

pub power_fits : (n : ℕ) → n ≤ 10 ^ 36 → FitsSigned w128 (pos n)
power_fits n low = record { sfits = omega (arith, low) }

-- ---- counts

pub count_by_map : {A B : Type 0} (test : B → Bool) (f : A → B) (xs : List A) → count_by test (map f xs) ≡ count_by (λ x. test (f x)) xs
count_by_map {A} {B} test f xs = fold-map (λ (a : ℕ) (y : B). a + cond (test y) 1 0) f 0 xs

-- what is counted by one of two tests that exclude each other is counted by either
split_counts : {A : Type 0} (p q r : A → Bool) → ((x : A) → cond (p x) 1 0 + cond (q x) 1 0 ≡ cond (r x) 1 0) → (xs : List A)
    → count_by p xs + count_by q xs ≡ count_by r xs
split_counts p q r one [] = refl
split_counts {A} p q r one (x ∷ xs) =
    let step = λ (t : A → Bool). sum_by-cons (λ (y : A). cond (t y) 1 0) x xs in
    let here = one x in
    let behind = split_counts p q r one xs in
    omega (arith, step p, step q, step r, here, behind)

-- a number is in no bin, or its thousandths are in some
pub beyond_rest : (bins : Bins) (values : List Value) (ts : List (Option ℤ)) (count within numbers : ℕ) → ts ≡ map thousandths_at values
    → count ≡ bins.count → within ≡ count_by (is_between (bin_low bins 0) (bin_low bins count)) ts → numbers ≡ count_by is_number values
    → count_by (is_beyond bins) values + within ≡ numbers
beyond_rest bins values ts count within numbers ts_are count_is within_is numbers_are =
    ap (λ (n : ℕ). count_by (is_beyond bins) values + n) (within_is ∙ ap (λ (n : ℕ). count_by (is_between (bin_low bins 0) (bin_low bins n)) ts) count_is
    ∙ ap (count_by test) ts_are ∙ count_by_map test thousandths_at values)
    ∙ split_counts (is_beyond bins) (λ v. test (thousandths_at v)) is_number one values ∙ sym numbers_are
  where
    test : Option ℤ → Bool
    test t = is_between (bin_low bins 0) (bin_low bins bins.count) t

    either : (b : Bool) → cond (not b) 1 0 + cond b 1 0 ≡ 1
    either true = refl
    either false = refl

    one : (v : Value) → cond (is_beyond bins v) 1 0 + cond (test (thousandths_at v)) 1 0 ≡ cond (is_number v) 1 0
    one (Number x) = either (test (thousandths_of x))
    one (Code c) = refl
    one Bad = refl

-- the bins with one more
pub bins_more : (bins : Bins) (values : List Value) (i n : ℕ) (done counts : List ℕ) (ts : List (Option ℤ))
    → done ≡ map (λ k. count_by (is_in_bin bins k) values) (range_with_len 0 i) → ts ≡ map thousandths_at values
    → n ≡ count_by (is_between (bin_low bins i) (bin_low bins (i + 1))) ts → counts ≡ done ++ n ∷ []
    → counts ≡ map (λ k. count_by (is_in_bin bins k) values) (range_with_len 0 (i + 1))
bins_more bins values i n done counts ts done_is ts_is n_is more =
    let test = is_between (bin_low bins i) (bin_low bins (i + 1)) in
    let here : n ≡ count_by (is_in_bin bins i) values = n_is ∙ ap (count_by test) ts_is ∙ count_by_map test thousandths_at values in
    more ∙ ap (λ (xs : List ℕ). xs ++ n ∷ []) done_is
    ∙ ap (λ (k : ℕ). map (λ j. count_by (is_in_bin bins j) values) (range_with_len 0 i) ++ k ∷ []) here
    ∙ sym (map-range_with_len_more (λ j. count_by (is_in_bin bins j) values) 0 i i (omega arith))
