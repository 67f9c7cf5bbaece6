use Rattle.std.proofs.Common.{◌≡◌, ◌^◌, nat_lt, ◌&&◌, if◌then◌else◌, ℤ, pos, ◌<ℤ◌, ◌+ℤ◌, ◌*ℤ◌, Bool, true, false, Some, None, Result, Ok, Err, IfOk, OnOk}
use Rattle.std.proofs.Common.{OnErr, List, [], ◌∷◌, int_div, unsigned_abs, refl, sym, ap, ◌∙◌, subst, arith}
use Rattle.std.specs.Bool.{Decides}
use Rattle.std.proofs.lemmas.Bool.Decides.{Decides-ltb}
use Rattle.fraction128.specs.Arithmetic.{IsSum, IsProduct, sum_numbers, sum_of_quotients, scaled_numbers}
use Rattle.fraction128.specs.Divisor.{int_gcd}
use Rattle.fraction128.specs.Formulas.{Ratio, added, answered, are_in_range, in_lowest_terms, ratio_of, scaled}
use Rattle.fraction128.specs.Range.{AllInRange}
use Rattle.fraction128.specs.declared.fraction.Fraction.{Fraction}
use Rattle.fraction128.proofs.CofactorLaws.{above-apart, cofactors-coprime, cofactors-cross, first-above, first-exact, common_divisor-above, second-above}
use Rattle.fraction128.proofs.CofactorLaws.{second-exact}
use Rattle.fraction128.proofs.FormulaLaws.{product-coprime, product_is, sum_is}
use Rattle.fraction128.proofs.LowestLaws.{lowest_unique}
use Rattle.fraction128.proofs.Signs.{above-*, same_cancel}
use Rattle.fraction128.proofs.Whole.{parts, ring, same_dif}

-- The formulas as functions: what they answer is what the calls answer, and what it means.

-- ---- the range

-- the numbers are tested in range exactly where they are
pub in_range_decides : (numbers : List ℤ) → Decides (are_in_range numbers) (AllInRange numbers)
in_range_decides [] = (λ _. tt, λ _. refl)
in_range_decides (z ∷ numbers) = both (nat_lt (unsigned_abs z) (2 ^ 127)) (are_in_range numbers) (Decides-ltb (unsigned_abs z) (2 ^ 127))
    (in_range_decides numbers)
  where
    both : {P Q : Type 0} (a b : Bool) → Decides a P → Decides b Q → Decides (a && b) (P × Q)
    both true b p q = (λ h. (p.0 refl, q.0 h), λ h. q.1 h.1)
    both false b p q = (λ h. absurd (cc), λ h. p.1 h.0)

module _ (numbers : List ℤ) (ratio : Ratio) where
  pub fits_answer : AllInRange numbers → (if are_in_range numbers then Some ratio else None) ≡ Some ratio
  fits_answer fits = rw ((in_range_decides numbers).1 fits) refl

  pub overflow_answer : ¬ AllInRange numbers → (if are_in_range numbers then Some ratio else None) ≡ None
  overflow_answer out = rw (false_without (are_in_range numbers) (λ h. out ((in_range_decides numbers).0 h))) refl
    where
      false_without : (b : Bool) → (b ≡ true → ⊥) → b ≡ false
      false_without true h = absurd (h refl)
      false_without false h = refl

  -- an answer is the ratio
  pub answer_is : (s : Ratio) → (if are_in_range numbers then Some ratio else None) ≡ Some s → ratio ≡ s
  answer_is s e = by (are_in_range numbers) e
    where
      by : (b : Bool) → (if b then Some ratio else None) ≡ Some s → ratio ≡ s
      by true h = cc
      by false h = cc

-- ---- lowest terms

-- the quotients of two numbers by their greatest common divisor
lowest_cross : (p q : ℤ) → (in_lowest_terms p q).numerator *ℤ q ≡ p *ℤ (in_lowest_terms p q).denominator
lowest_cross p q = cofactors-cross p q _ _ refl refl

lowest_above : (p q : ℤ) → pos 0 <ℤ q → pos 0 <ℤ (in_lowest_terms p q).denominator
lowest_above p q h = second-above p q _ _ refl refl h

-- a fraction that is p over q is p over q in lowest terms
lowest_is : (z : Fraction) (p q : ℤ) → pos 0 <ℤ q → z.numerator *ℤ q ≡ p *ℤ z.denominator → in_lowest_terms p q ≡ ratio_of z
lowest_is z p q above same =
    let low = in_lowest_terms p q in
    let cross : z.numerator *ℤ low.denominator ≡ low.numerator *ℤ z.denominator =
    same_cancel _ _ q above (swapped z.numerator low.denominator q ∙ ap (λ (n : ℤ). n *ℤ low.denominator) same ∙ turned p z.denominator low.denominator
    ∙ ap (λ (n : ℤ). n *ℤ z.denominator) (sym (lowest_cross p q)) ∙ swapped low.numerator q z.denominator) in
    let unique = lowest_unique z.numerator z.denominator low.numerator low.denominator z.positive (lowest_above p q above) z.reduced
    (cofactors-coprime p q _ _ refl refl (above-apart q above)) cross in
    λ i. record { numerator = sym unique.0 i; denominator = sym unique.1 i }
  where
    swapped : (a b c : ℤ) → a *ℤ b *ℤ c ≡ a *ℤ c *ℤ b
    swapped a b c = rw (parts a, parts b, parts c) (simp ring (same_dif _ _ _ _ (omega arith)))

    turned : (a b c : ℤ) → a *ℤ b *ℤ c ≡ a *ℤ c *ℤ b
    turned a b c = swapped a b c

-- ---- sums

-- the sum of two fractions whose denominators share the factor g, over their least common multiple
sum_over_parts : (zn zd xn yn m n g : ℤ) → pos 0 <ℤ g → zn *ℤ (m *ℤ g *ℤ (n *ℤ g)) ≡ (xn *ℤ (n *ℤ g) +ℤ yn *ℤ (m *ℤ g)) *ℤ zd → zn *ℤ (m *ℤ (n *ℤ g))
    ≡ (xn *ℤ n +ℤ yn *ℤ m) *ℤ zd
sum_over_parts zn zd xn yn m n g above e = same_cancel _ _ g above (left ∙ e ∙ right)
  where
    left : zn *ℤ (m *ℤ (n *ℤ g)) *ℤ g ≡ zn *ℤ (m *ℤ g *ℤ (n *ℤ g))
    left = rw (parts zn, parts m, parts n, parts g) (simp ring (same_dif _ _ _ _ (omega arith)))

    right : (xn *ℤ (n *ℤ g) +ℤ yn *ℤ (m *ℤ g)) *ℤ zd ≡ (xn *ℤ n +ℤ yn *ℤ m) *ℤ zd *ℤ g
    right = rw (parts xn, parts yn, parts m, parts n, parts g, parts zd) (simp ring (same_dif _ _ _ _ (omega arith)))

-- the least common multiple of the denominators is positive
module _ (b d : ℤ) (b_above : pos 0 <ℤ b) (d_above : pos 0 <ℤ d) where
  multiple_above : pos 0 <ℤ (int_div b (int_gcd b d) *ℤ d)
  multiple_above = above-* _ d (first-above b d _ _ refl refl b_above) d_above

-- what is answered for a sum is the sum by the formula
pub added-answered : {E : Type 0} (x y : Fraction) (r : Result Fraction E) → IfOk r (λ z. IsSum x y z) → OnOk r (AllInRange (sum_numbers x y))
    → OnErr r (¬ AllInRange (sum_numbers x y))
    → answered r ≡ added (ratio_of x) (ratio_of y)
added-answered x y (Err e) value fits overflow = sym (overflow_answer (sum_numbers x y) _ overflow)
added-answered x y (Ok z) value fits overflow =
    let b = x.denominator in
    let d = y.denominator in
    let g = int_gcd b d in
    let m = int_div b g in
    let n = int_div d g in
    let g_above : pos 0 <ℤ g = common_divisor-above b d g refl (above-apart d y.positive) in
    let b_is : m *ℤ g ≡ b = first-exact b d m n refl refl in
    let d_is : n *ℤ g ≡ d = second-exact b d m n refl refl in
    let whole : z.numerator *ℤ (m *ℤ (n *ℤ g)) ≡ (x.numerator *ℤ n +ℤ y.numerator *ℤ m) *ℤ z.denominator =
    sum_over_parts z.numerator z.denominator x.numerator y.numerator m n g g_above (over_both b d (m *ℤ g) (n *ℤ g) b_is d_is value) in
    let same : z.numerator *ℤ (m *ℤ d) ≡ (x.numerator *ℤ n +ℤ y.numerator *ℤ m) *ℤ z.denominator =
    ap (λ (k : ℤ). z.numerator *ℤ (m *ℤ k)) (sym d_is) ∙ whole in
    ap Some (sym (lowest_is z _ (m *ℤ d) (multiple_above b d x.positive y.positive) same)) ∙ sym (fits_answer (sum_numbers x y) _ fits)
  where
    over_both : (b d u v : ℤ) → u ≡ b → v ≡ d → z.numerator *ℤ (b *ℤ d) ≡ (x.numerator *ℤ d +ℤ y.numerator *ℤ b) *ℤ z.denominator
        → z.numerator *ℤ (u *ℤ v) ≡ (x.numerator *ℤ v +ℤ y.numerator *ℤ u) *ℤ z.denominator
    over_both b d u v i j e = rw (i, j) e

-- the sum by the formula is the sum, over a positive denominator
pub added-value : (x y s : Ratio) → pos 0 <ℤ x.denominator → pos 0 <ℤ y.denominator → added x y ≡ Some s
    → (s.numerator *ℤ (x.denominator *ℤ y.denominator) ≡ (x.numerator *ℤ y.denominator +ℤ y.numerator *ℤ x.denominator) *ℤ s.denominator)
    × (pos 0 <ℤ s.denominator)
added-value x y s x_above y_above e =
    let P : Ratio → Type 0 = λ z. (z.numerator *ℤ (x.denominator *ℤ y.denominator) ≡ (x.numerator *ℤ y.denominator +ℤ y.numerator *ℤ x.denominator) *ℤ
    z.denominator) × (pos 0 <ℤ z.denominator) in
    let g = int_gcd x.denominator y.denominator in
    let p = x.numerator *ℤ int_div y.denominator g +ℤ y.numerator *ℤ int_div x.denominator g in
    subst P (answer_is (sum_of_quotients x.numerator x.denominator y.numerator y.denominator) _ s e) (
      sum_is x.numerator x.denominator y.numerator y.denominator _ _ _ _ _ _ refl refl refl refl (lowest_cross p _),
      lowest_above p _ (multiple_above x.denominator y.denominator x_above y_above),
    )

-- ---- products

-- k times a fraction, where k and the denominator share the factor g
product_over_parts : (zn zd xn m n g : ℤ) → pos 0 <ℤ g → zn *ℤ (n *ℤ g) ≡ xn *ℤ (m *ℤ g) *ℤ zd → zn *ℤ n ≡ xn *ℤ m *ℤ zd
product_over_parts zn zd xn m n g above e = same_cancel _ _ g above (left ∙ e ∙ right)
  where
    left : zn *ℤ n *ℤ g ≡ zn *ℤ (n *ℤ g)
    left = rw (parts zn, parts n, parts g) (simp ring (same_dif _ _ _ _ (omega arith)))

    right : xn *ℤ (m *ℤ g) *ℤ zd ≡ xn *ℤ m *ℤ zd *ℤ g
    right = rw (parts xn, parts m, parts g, parts zd) (simp ring (same_dif _ _ _ _ (omega arith)))

-- what is answered for a product with a whole number is the product by the formula
pub scaled-answered : {E : Type 0} (x : Fraction) (k : ℤ) (r : Result Fraction E) → IfOk r (λ z. IsProduct x k z) → OnOk r (AllInRange (scaled_numbers x k))
    → OnErr r (¬ AllInRange (scaled_numbers x k))
    → answered r ≡ scaled (ratio_of x) k
scaled-answered x k (Err e) value fits overflow = sym (overflow_answer (scaled_numbers x k) _ overflow)
scaled-answered x k (Ok z) value fits overflow =
    let b = x.denominator in
    let g = int_gcd k b in
    let m = int_div k g in
    let n = int_div b g in
    let g_above : pos 0 <ℤ g = common_divisor-above k b g refl (above-apart b x.positive) in
    let k_is : m *ℤ g ≡ k = first-exact k b m n refl refl in
    let b_is : n *ℤ g ≡ b = second-exact k b m n refl refl in
    let same : z.numerator *ℤ n ≡ x.numerator *ℤ m *ℤ z.denominator =
    product_over_parts z.numerator z.denominator x.numerator m n g g_above (over_both k b (m *ℤ g) (n *ℤ g) k_is b_is value) in
    let unique = lowest_unique z.numerator z.denominator (x.numerator *ℤ m) n z.positive (second-above k b m n refl refl x.positive) z.reduced
    (product-coprime x.numerator b k m n _ refl refl refl x.positive x.reduced) same in
    (λ i. Some (record { numerator = unique.0 i; denominator = unique.1 i })) ∙ sym (fits_answer (scaled_numbers x k) _ fits)
  where
    over_both : (k b u v : ℤ) → u ≡ k → v ≡ b → z.numerator *ℤ b ≡ x.numerator *ℤ k *ℤ z.denominator → z.numerator *ℤ v ≡ x.numerator *ℤ u *ℤ z.denominator
    over_both k b u v i j e = rw (i, j) e

-- the product by the formula is the product, over a positive denominator
pub scaled-value : (x : Ratio) (k : ℤ) (s : Ratio) → pos 0 <ℤ x.denominator → scaled x k ≡ Some s
    → (s.numerator *ℤ x.denominator ≡ x.numerator *ℤ k *ℤ s.denominator) × (pos 0 <ℤ s.denominator)
scaled-value x k s above e =
    let P : Ratio → Type 0 = λ z. (z.numerator *ℤ x.denominator ≡ x.numerator *ℤ k *ℤ z.denominator) × (pos 0 <ℤ z.denominator) in
    let g = int_gcd k x.denominator in
    subst P (answer_is ((x.numerator *ℤ int_div k g) ∷ int_div x.denominator g ∷ []) _ s e) (
      product_is x.numerator x.denominator k _ _ _ _ refl refl refl refl,
      second-above k x.denominator _ _ refl refl above,
    )
