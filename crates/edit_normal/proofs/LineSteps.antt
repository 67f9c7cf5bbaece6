use Rattle.std.proofs.Common.{◌≡◌, ◌≢◌, ℕ, zero, suc, ◌&&◌, ◌||◌, not, nat_eq, Bool, true, false, List, [], ◌∷◌, length, map, ℤ, pos, int_le, int_lt, refl, sym}
use Rattle.std.proofs.Common.{ap, ◌∙◌, subst, arith}
use Rattle.std.specs.Bool.{Decides}
use Rattle.std.specs.Int.{bit_at}
use Rattle.std.specs.Ordering.{int_eq}
use Rattle.std.proofs.lemmas.Bool.Decides.{Decides-eqb}
use Rattle.std.proofs.lemmas.Int.{ints}
use Rattle.std.proofs.lemmas.Nat.Bits.{bit_at-zero}
use lib.IntN.{neg_ℤ}
use Rattle.edit_model.specs.Points.{Point, compares, linear_sum}
use Rattle.edit_model.specs.declared.rule.Compare.{Compare}
use Rattle.edit_model.specs.declared.rule.Compare.TheVariants.{Ge, Gt, Le, Lt, Eq}
use Rattle.edit_model.specs.declared.rule.Linear.{Linear}
use Rattle.edit_line.specs.Divisors.{reduced}
use Rattle.edit_line.specs.Lines.{AllHold, IsEnough, LineHolds, LineParts, amount, parts_of}
use Rattle.edit_line.specs.declared.relation.Relation.{Relation}
use Rattle.edit_line.specs.declared.relation.Relation.TheVariants.{Above, AtLeast, Equal}
use Rattle.edit_line.specs.Sets.{AreCodesIn, none_is_empty, are_codes_in}
use Rattle.edit_line.specs.Shapes.{Domain, codes_at, number_fields, whole_sets}
use Rattle.edit_line.specs.Subsumption.{is_enough}
use Rattle.edit_line.proofs.DivisionLaws.{enough-reduced, reduced-enough}
use Rattle.edit_line.proofs.Enough.{is_enough-Decides}
use Rattle.edit_line.proofs.SetLaws.{both_decide, is_inside-Decides}
use Rattle.edit_normal.specs.NormalForm.{compare_always, compare_lines, contrary_lines, positive_line_of, negative_line_of, term_factor}
use Rattle.edit_normal.proofs.SumLaws.{HasTerms, amount-negative, amount-sum}

-- When the lines of a comparison hold at a point.

-- ---- lists of one or two lines

pub one-Decides : (b : Bool) (line : LineParts) (p : Point) → Decides b (LineHolds line p) → Decides b (AllHold (line ∷ []) p)
one-Decides b line p d = (λ h. only (d.0 h), λ all. d.1 (all 0 line (omega arith)))
  where
    only : LineHolds line p → AllHold (line ∷ []) p
    only holds zero d below = holds
    only holds (suc k) d below = absurd (omega arith)

two-Decide : (a b : Bool) (line next : LineParts) (p : Point) → Decides a (LineHolds line p) → Decides b (LineHolds next p)
    → Decides (a && b) (AllHold (line ∷ next ∷ []) p)
two-Decide a b line next p first second =
    let both = both_decide a b first second in (λ h. together (both.0 h).0 (both.0 h).1, λ all. both.1 (all 0 line (omega arith), all 1 line (omega arith)))
  where
    together : LineHolds line p → LineHolds next p → AllHold (line ∷ next ∷ []) p
    together holds also zero d below = holds
    together holds also (suc zero) d below = also
    together holds also (suc (suc k)) d below = absurd (omega arith)

other : {P : Type 0} (a b : Bool) → a ≡ b → Decides a P → Decides b P
other {P} a b e d = subst (λ (c : Bool). Decides c P) e d

-- ---- one line

-- a line that is divided says that the sum is enough where the codes are in the sets
divided-Decides : (line : LineParts) (b : Bool) (p : Point) → Decides b (IsEnough line.relation (amount line p))
    → Decides (not (are_codes_in line.sets (codes_at line.shape p)) || b) (LineHolds (reduced line) p)
divided-Decides line b p d = by (are_codes_in line.sets (codes_at line.shape p)) (is_inside-Decides line.sets (codes_at line.shape p))
  where
    by : (i : Bool) → Decides i (AreCodesIn line.sets (codes_at line.shape p)) → Decides (not i || b) (LineHolds (reduced line) p)
    by true q = (λ h. enough-reduced line p (λ _. d.0 h), λ holds. d.1 (reduced-enough line p holds (q.0 refl)))
    by false q = (λ _. enough-reduced line p (λ inside. absurd (cc (q.1 inside))), λ _. refl)

-- ---- the lines of a comparison

module _ (shape : List Domain) (sets : List ℕ) (e : Linear) (p : Point) (has : HasTerms shape e.terms) where
  inside : Bool
  inside = are_codes_in sets (codes_at shape p)

  sum : ℤ
  sum = linear_sum e p

  positive : (relation : Relation) → Decides (not inside || is_enough relation sum) (LineHolds (positive_line_of shape sets e relation) p)
  unfolding inside sum
  positive relation =
      divided-Decides (parts_of shape sets (map (term_factor e.terms) (number_fields shape)) e.constant relation) (is_enough relation (linear_sum e p)) p
      (subst (λ (z : ℤ). Decides (is_enough relation (linear_sum e p)) (IsEnough relation z)) (sym (amount-sum p shape sets e relation has))
      (is_enough-Decides relation (linear_sum e p)))

  negative : (relation : Relation) → Decides (not inside || is_enough relation (neg_ℤ sum)) (LineHolds (negative_line_of shape sets e relation) p)
  unfolding inside sum
  negative relation =
      divided-Decides (parts_of shape sets (map (λ f. neg_ℤ (term_factor e.terms f)) (number_fields shape)) (neg_ℤ e.constant) relation)
      (is_enough relation (neg_ℤ (linear_sum e p))) p
      (subst (λ (z : ℤ). Decides (is_enough relation (neg_ℤ (linear_sum e p))) (IsEnough relation z)) (sym (amount-negative p shape sets e relation has))
      (is_enough-Decides relation (neg_ℤ (linear_sum e p))))

  le_is : (z : ℤ) → is_enough AtLeast (neg_ℤ z) ≡ int_le z (pos 0)
  le_is z = grind (arith, ints)

  lt_is : (z : ℤ) → is_enough Above (neg_ℤ z) ≡ int_lt z (pos 0)
  lt_is z = grind (arith, ints)

  eq_is : (z : ℤ) → (is_enough AtLeast z && is_enough AtLeast (neg_ℤ z)) ≡ int_eq z (pos 0)
  eq_is z = grind (arith, ints)

  -- the lines of a comparison hold where it does, or some code is outside its set
  pub compare-Decides : (c : Compare) → Decides (not (are_codes_in sets (codes_at shape p)) || compares c (linear_sum e p))
      (AllHold (compare_lines shape sets e c) p)
  unfolding inside sum
  compare-Decides Ge = one-Decides _ _ p (positive AtLeast)
  compare-Decides Gt = one-Decides _ _ p (positive Above)
  compare-Decides Le = one-Decides _ _ p (other _ _ (ap (λ b. not inside || b) (le_is sum)) (negative AtLeast))
  compare-Decides Lt = one-Decides _ _ p (other _ _ (ap (λ b. not inside || b) (lt_is sum)) (negative Above))
  compare-Decides Eq = other _ _ (shared (not inside) (is_enough AtLeast sum) (is_enough AtLeast (neg_ℤ sum)) ∙ ap (λ b. not inside || b) (eq_is sum))
      (two-Decide _ _ _ _ p (positive AtLeast) (negative AtLeast))
    where
      shared : (i a b : Bool) → ((i || a) && (i || b)) ≡ (i || (a && b))
      shared true a b = refl
      shared false a b = refl

  -- so do those of a comparison without conditions, where the codes are in the whole sets
  pub always-Decides : (c : Compare) → sets ≡ whole_sets shape → are_codes_in sets (codes_at shape p) ≡ true
      → Decides (compares c (linear_sum e p)) (AllHold (compare_always shape e c) p)
  unfolding inside sum
  always-Decides c are all = by c (among (compare-Decides c))
    where
      among : {P : Type 0} {b : Bool} → Decides (not (are_codes_in sets (codes_at shape p)) || b) P → Decides b P
      among {P} {b} d = subst (λ (i : Bool). Decides (not i || b) P) all d

      whole : (c : Compare) → Decides (compares c (linear_sum e p)) (AllHold (compare_lines shape sets e c) p)
          → Decides (compares c (linear_sum e p)) (AllHold (compare_lines shape (whole_sets shape) e c) p)
      whole c d = subst (λ (ss : List ℕ). Decides (compares c (linear_sum e p)) (AllHold (compare_lines shape ss e c) p)) are d

      by : (c : Compare) → Decides (compares c (linear_sum e p)) (AllHold (compare_lines shape sets e c) p)
          → Decides (compares c (linear_sum e p)) (AllHold (compare_always shape e c) p)
      by Ge d = whole Ge d
      by Gt d = whole Gt d
      by Le d = whole Le d
      by Lt d = whole Lt d
      by Eq d = subst (λ (ss : List ℕ). Decides (compares Eq (linear_sum e p)) (AllHold (positive_line_of shape ss e Equal ∷ []) p)) are
          (one-Decides _ _ p (among (positive Equal)))

  not_ge : (z : ℤ) → is_enough Above (neg_ℤ z) ≡ not (int_le (pos 0) z)
  not_ge z = grind (arith, ints)

  not_gt : (z : ℤ) → is_enough AtLeast (neg_ℤ z) ≡ not (int_lt (pos 0) z)
  not_gt z = grind (arith, ints)

  not_le : (z : ℤ) → is_enough Above z ≡ not (int_le z (pos 0))
  not_le z = grind (arith, ints)

  not_lt : (z : ℤ) → is_enough AtLeast z ≡ not (int_lt z (pos 0))
  not_lt z = grind (arith, ints)

  -- the lines of its contrary hold where it does not, or some code is outside its set
  pub contrary-Decides : (c : Compare) → c ≢ Eq → Decides (not (are_codes_in sets (codes_at shape p)) || not (compares c (linear_sum e p)))
      (AllHold (contrary_lines shape sets e c) p)
  unfolding inside sum
  contrary-Decides Ge apart = one-Decides _ _ p (other _ _ (ap (λ b. not inside || b) (not_ge sum)) (negative Above))
  contrary-Decides Gt apart = one-Decides _ _ p (other _ _ (ap (λ b. not inside || b) (not_gt sum)) (negative AtLeast))
  contrary-Decides Le apart = one-Decides _ _ p (other _ _ (ap (λ b. not inside || b) (not_le sum)) (positive Above))
  contrary-Decides Lt apart = one-Decides _ _ p (other _ _ (ap (λ b. not inside || b) (not_lt sum)) (positive AtLeast))
  contrary-Decides Eq apart = absurd (apart refl)

-- ---- a line with an empty set

-- no codes are inside sets of which one is empty
none-inside : (sets codes : List ℕ) → length sets ≡ length codes → none_is_empty sets ≡ false → AreCodesIn sets codes → ⊥
none-inside [] codes same empty inside = cc
none-inside (s ∷ sets) [] same empty inside = omega arith
none-inside (s ∷ sets) (code ∷ codes) same empty inside = by (nat_eq s 0) refl empty (λ rest. none-inside sets codes (omega arith) rest inside.1)
  where
    by : (b : Bool) → nat_eq s 0 ≡ b → (not b && none_is_empty sets) ≡ false → (none_is_empty sets ≡ false → ⊥) → ⊥
    by true e h later =
        let is : s ≡ 0 = (Decides-eqb s 0).0 e in
        let bit : bit_at s code ≡ 0 = ap (λ n. bit_at n code) is ∙ bit_at-zero code in omega (arith, bit, inside.0)
    by false e h later = later h

-- such a line holds everywhere
pub empty-holds : (line : LineParts) (p : Point) → length line.sets ≡ length (codes_at line.shape p) → none_is_empty line.sets ≡ false → LineHolds line p
empty-holds line p same empty = record { enough = λ inside. absurd (none-inside line.sets (codes_at line.shape p) same empty inside) }
