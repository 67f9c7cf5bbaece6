use Rattle.std.proofs.Common.{◌≡◌, ℕ, zero, suc, ◌+◌, ◌<◌, not, nat_eq, Bool, true, false, if◌then◌else◌, List, [], ◌∷◌, ◌++◌, All, length, bit_and, Option}
use Rattle.std.proofs.Common.{Some, None, ℤ, ◌+ℤ◌, ◌*ℤ◌, refl, sym, ap, ◌∙◌, subst, arith}
use Rattle.std.proofs.lemmas.Nat.{and_le_l}
use Rattle.fraction128.specs.Range.{InRange}
use Rattle.edit_line.specs.Lines.{IsLine, LineParts, parts_of}
use Rattle.edit_line.specs.Sets.{AreSets}
use Rattle.edit_line.specs.Shapes.{Domain, number_fields, whole_sets}
use Rattle.edit_line.specs.Combinations.{all_meet, combined, first_overflow, in_both, joined, numbers, sum_fits, sum_of}
use Rattle.edit_line.specs.declared.relation.Relation.{Relation}
use Rattle.edit_line.proofs.RelationLaws.{joined-equal}
use Rattle.edit_line.proofs.SetLaws.{both_true}
use Rattle.edit_line.proofs.WholeSets.{in_both-same}
use Rattle.edit_line.proofs.ListPairs.{fits-sum}

-- The sum of the multiples of two lines: its factors, and then its constant.

-- the first overflow of all, by the one before and whether the last number fits
abbrev last_overflow : Option ℕ → Bool → ℕ → Option ℕ
last_overflow (Some place) fits k = Some place
last_overflow None true k = None
last_overflow None false k = Some k

overflow-last : (m n a b : ℤ) (i : ℕ) (first second : List ℤ) → length first ≡ length second → first_overflow i m n (first ++ a ∷ []) (second ++ b ∷ [])
    ≡ last_overflow (first_overflow i m n first second) (sum_fits m n a b) (i + length first)
overflow-last m n a b i [] [] same = by (sum_fits m n a b)
  where
    by : (fits : Bool) → (if fits then None else Some i) ≡ last_overflow None fits (i + 0)
    by true = refl
    by false = ap (λ k. Some k) (omega arith)
overflow-last m n a b i [] (y ∷ second) same = absurd (omega arith)
overflow-last m n a b i (x ∷ first) [] same = absurd (omega arith)
overflow-last m n a b i (x ∷ first) (y ∷ second) same = by (sum_fits m n x y) (overflow-last m n a b (suc i) first second (omega arith))
  where
    by : (fits : Bool) → first_overflow (suc i) m n (first ++ a ∷ []) (second ++ b ∷ []) ≡ last_overflow (first_overflow (suc i) m n first second)
        (sum_fits m n a b) (suc i + length first)
        → (if fits then first_overflow (suc i) m n (first ++ a ∷ []) (second ++ b ∷ []) else Some i)
        ≡ last_overflow (if fits then first_overflow (suc i) m n first second else Some i) (sum_fits m n a b) (i + suc (length first))
    by true rest = rest ∙ ap (λ k. last_overflow (first_overflow (suc i) m n first second) (sum_fits m n a b) k) (omega arith)
    by false rest = refl

-- ---- the sum is a line

above-not_zero : (n : ℕ) → not (nat_eq n 0) ≡ true → 0 < n
above-not_zero zero h = absurd (cc)
above-not_zero (suc n) h = omega arith

-- sets that meet have their own codes in common
pub AreSets-meets : (first second wholes : List ℕ) → AreSets first wholes → AreSets second wholes → all_meet first second ≡ true
    → AreSets (in_both first second) wholes
AreSets-meets [] [] [] p q meet = tt
AreSets-meets [] (t ∷ second) [] p q meet = absurd q
AreSets-meets (s ∷ first) [] [] p q meet = absurd p
AreSets-meets (s ∷ first) (t ∷ second) [] p q meet = absurd p
AreSets-meets [] second (w ∷ wholes) p q meet = absurd p
AreSets-meets (s ∷ first) [] (w ∷ wholes) p q meet = absurd q
AreSets-meets (s ∷ first) (t ∷ second) (w ∷ wholes) p q meet =
    let both = both_true _ _ meet in
    (above-not_zero (bit_and s t) both.0, omega (arith, and_le_l s t, p.1), AreSets-meets first second wholes p.2 q.2 both.1)

-- the sum of multiples of two lines, made of its parts
pub sum-is : (shape : List Domain) (m n constant : ℤ) (s t : LineParts) (sets : List ℕ) (factors : List ℤ) (relation : Relation) → s.shape ≡ shape → sets
    ≡ in_both s.sets t.sets → factors ≡ combined m n s.factors t.factors
    → constant ≡ m *ℤ s.constant +ℤ n *ℤ t.constant → relation ≡ joined s.relation t.relation → parts_of shape sets factors constant relation ≡ sum_of m n s t
sum-is shape m n constant s t sets factors relation s_over sets_are factors_are constant_is relation_is =
    λ i. parts_of (sym s_over i) (sets_are i) (factors_are i) (constant_is i) (relation_is i)

-- and it is a line
pub sum-line : (shape : List Domain) (constant : ℤ) (s t : LineParts) (sets : List ℕ) (factors : List ℤ) (relation : Relation) → s.shape ≡ shape → t.shape
    ≡ shape → sets ≡ in_both s.sets t.sets → relation ≡ joined s.relation t.relation → IsLine s
    → IsLine t → all_meet s.sets t.sets ≡ true → length factors ≡ length (number_fields shape) → All InRange factors → InRange constant
    → IsLine (parts_of shape sets factors constant relation)
sum-line shape constant s t sets factors relation s_over t_over sets_are relation_is s_line t_line meet count all fits = record {
  sets = subst (λ (xs : List ℕ). AreSets xs (whole_sets shape)) (sym sets_are) (AreSets-meets s.sets t.sets (whole_sets shape)
      (subst (λ (sh : List Domain). AreSets s.sets (whole_sets sh)) s_over s_line.sets) (subst (λ (sh : List Domain). AreSets t.sets (whole_sets sh)) t_over
      t_line.sets) meet);
  factors = count;
  in_range = (all, fits);
  whole = λ equal.
      let (s_equal, t_equal) = joined-equal s.relation t.relation (sym relation_is ∙ equal) in
      sets_are ∙ (λ i. in_both (s_line.whole s_equal i) (t_line.whole t_equal i)) ∙ (λ i. in_both (whole_sets (s_over i)) (whole_sets (t_over i)))
      ∙ in_both-same (whole_sets shape);
}

-- ---- the first place of all, by that among the factors

module _ (m n : ℤ) (s t : LineParts) (xs ys : List ℤ) (xs_are : xs ≡ s.factors) (ys_are : ys ≡ t.factors) (same : length xs ≡ length ys) where
  longer : first_overflow 0 m n (numbers s) (numbers t) ≡ last_overflow (first_overflow 0 m n xs ys) (sum_fits m n s.constant t.constant) (length xs)
  longer =
      (λ i. first_overflow 0 m n (sym xs_are i ++ s.constant ∷ []) (sym ys_are i ++ t.constant ∷ []))
      ∙ overflow-last m n s.constant t.constant 0 xs ys same ∙ ap (λ k. last_overflow (first_overflow 0 m n xs ys) (sum_fits m n s.constant t.constant) k)
      from_none
    where
      from_none : 0 + length xs ≡ length xs
      from_none = omega arith

  -- an overflow among the factors is the first of all
  pub place-first : (k : ℕ) → Some k ≡ first_overflow 0 m n xs ys → Some k ≡ first_overflow 0 m n (numbers s) (numbers t)
  place-first k is = sym (longer ∙ ap (λ o. last_overflow o (sum_fits m n s.constant t.constant) (length xs)) (sym is))

  -- else the constant decides
  module _ (none : None ≡ first_overflow 0 m n xs ys) (a b : ℤ) (sum : Option ℤ) (a_is : a ≡ s.constant) (b_is : b ≡ t.constant)
      (sum_is : sum ≡ (if sum_fits m n a b then Some (m *ℤ a +ℤ n *ℤ b) else None)) where
    last : first_overflow 0 m n (numbers s) (numbers t) ≡ last_overflow None (sum_fits m n s.constant t.constant) (length xs)
    last = longer ∙ ap (λ o. last_overflow o (sum_fits m n s.constant t.constant) (length xs)) (sym none)

    formed : sum ≡ (if sum_fits m n s.constant t.constant then Some (m *ℤ s.constant +ℤ n *ℤ t.constant) else None)
    formed = sum_is ∙ (λ i. if sum_fits m n (a_is i) (b_is i) then Some (m *ℤ a_is i +ℤ n *ℤ b_is i) else None)

    pub place-last : (k : ℕ) → k ≡ length xs → sum ≡ None → Some k ≡ first_overflow 0 m n (numbers s) (numbers t)
    place-last k k_is failed = ap (λ (j : ℕ). Some j) k_is ∙ sym (last ∙ by (sum_fits m n s.constant t.constant) _ (sym formed ∙ failed))
      where
        by : (fits : Bool) (z : ℤ) → (if fits then Some z else None) ≡ None → last_overflow None fits (length xs) ≡ Some (length xs)
        by true z e = absurd (cc)
        by false z e = refl

    pub no-place : (z : ℤ) → sum ≡ Some z → (None ≡ first_overflow 0 m n (numbers s) (numbers t)) × (z ≡ m *ℤ s.constant +ℤ n *ℤ t.constant) × InRange z
    no-place z some =
        let is = by (sum_fits m n s.constant t.constant) _ (sym formed ∙ some) in
        (sym (last ∙ ap (λ fits. last_overflow None fits (length xs)) is.0), is.1, subst InRange (sym is.1) (fits-sum m n s.constant t.constant is.0))
      where
        by : (fits : Bool) (y : ℤ) → (if fits then Some y else None) ≡ Some z → (fits ≡ true) × (z ≡ y)
        by true y h = (refl, cc)
        by false y h = absurd (cc)
