use Rattle.std.proofs.Common.{◌≡◌, ℕ, suc, true, List, [], ◌∷◌, All, map, None, ℤ, pos, ◌<ℤ◌, ◌+ℤ◌, ◌*ℤ◌, int_div, int_lt, int_rem, is_none, unsigned_abs, refl}
use Rattle.std.proofs.Common.{sym, ap, ◌∙◌, arith}
use Rattle.std.specs.Int.{◌∣◌}
use Rattle.std.specs.List.{list_all}
use Rattle.std.specs.Ordering.{int_eq}
use Rattle.std.proofs.lemmas.Bool.Decides.{Decides-int_eq}
use Rattle.std.proofs.lemmas.Int.{ints, quot-rem}
use Rattle.std.proofs.lemmas.List.Folds.{list_all-append}
use Rattle.fraction128.proofs.DivisorLaws.{quotient-exact}
use Rattle.fraction128.proofs.Whole.{comm, parts, ring, same_dif}
use Rattle.edit_model.specs.Points.{Point}
use Rattle.edit_line.specs.Combinations.{all_meet, divides, first_overflow, may_combine, may_multiply, numbers, sum_of}
use Rattle.edit_line.proofs.AllowedSums.{IsCombined, IsAllowedSum}
use Rattle.edit_line.specs.Divisors.{divided_by, divisor_of, gcd_all, or_one}
use Rattle.edit_line.specs.Lines.{LineHolds, LineParts}
use Rattle.edit_line.specs.declared.relation.Relation.TheVariants.{Above}
use Rattle.edit_line.proofs.BoolLaws.{true-both}
use Rattle.edit_line.proofs.CombinationLaws.{LineHolds-combined}
use Rattle.edit_line.proofs.DivisionLaws.{divides-constant, divides-factors}
use Rattle.edit_line.proofs.Enough.{is_enough-Decides}
use Rattle.edit_line.proofs.RelationLaws.{may-keeps}
use Rattle.edit_line.proofs.SetLaws.{both_true}

-- A combination that may be taken holds where both its lines do.

no_rest : (a : ℤ) → a ≡ a +ℤ pos 0
no_rest a = rw (parts a) (simp ring (same_dif _ _ _ _ (omega arith)))

-- a multiple is the divisor times the quotient
multiple : (g z : ℤ) → int_eq (int_rem z g) (pos 0) ≡ true → g *ℤ int_div z g ≡ z
multiple g z h =
    comm g (int_div z g) ∙ no_rest (int_div z g *ℤ g) ∙ ap (λ (r : ℤ). int_div z g *ℤ g +ℤ r) (sym ((Decides-int_eq (int_rem z g) (pos 0)).0 h)) ∙ quot-rem z g

multiples : (g : ℤ) (zs : List ℤ) → list_all (λ z. int_eq (int_rem z g) (pos 0)) zs ≡ true → map (λ c. g *ℤ c) (map (λ c. int_div c g) zs) ≡ zs
multiples g [] h = refl
multiples g (z ∷ zs) h = let (here, rest) = both_true _ _ h in let first = multiple g z here in let others = multiples g zs rest in λ i. first i ∷ others i

module _ (m n g : ℤ) (s t : LineParts) where
  -- a sum whose numbers are all multiples, divided
  pub divided-sum : t.shape ≡ s.shape → divides g (sum_of m n s t) ≡ true → IsCombined m n g s t (divided_by g (sum_of m n s t))
  divided-sum same h =
      let (factors, last) = both_true _ _ (sym (list_all-append (λ z. int_eq (int_rem z g) (pos 0)) (sum_of m n s t).factors ((sum_of m n s t).constant ∷ []))
      ∙ h) in
      record {
        shape = refl;
        same = same;
        sets = refl;
        factors = multiples g (sum_of m n s t).factors factors;
        constant =
            multiple g (sum_of m n s t).constant (both_true _ _ last).0;
        relation = refl;
      }

  -- what may be taken is an allowed sum
  pub may-allowed : t.shape ≡ s.shape → may_combine m n g s t ≡ true → IsAllowedSum m n g s t (divided_by g (sum_of m n s t))
  may-allowed same may =
      let (m_may, after_m) = both_true (may_multiply s.relation m) _ may in
      let (n_may, after_n) = both_true (may_multiply t.relation n) _ after_m in
      let (g_above, after_g) = both_true (int_lt (pos 0) g) _ after_n in
      let (meet, after_meet) = both_true (all_meet s.sets t.sets) _ after_g in
      let (fits, multiples) = both_true (is_none (first_overflow 0 m n (numbers s) (numbers t))) _ after_meet in
      record {
        m_keeps = may-keeps s.relation m m_may;
        n_keeps = may-keeps t.relation n n_may;
        g_above = above g g_above;
        combined =
            divided-sum same multiples;
      }
    where
      above : (z : ℤ) → int_lt (pos 0) z ≡ true → pos 0 <ℤ z
      above z h = (is_enough-Decides Above z).0 h

  -- so it holds where both lines do
  pub combined-holds : t.shape ≡ s.shape → may_combine m n g s t ≡ true → (point : Point) → LineHolds s point → LineHolds t point
      → LineHolds (divided_by g (sum_of m n s t)) point
  combined-holds same may point s_holds t_holds =
      let is = may-allowed same may in LineHolds-combined m n g s t (divided_by g (sum_of m n s t)) point is.m_keeps is.n_keeps is.g_above is.combined s_holds
      t_holds

  -- when it may be taken
  pub allowed-may : may_multiply s.relation m ≡ true → may_multiply t.relation n ≡ true → pos 0 <ℤ g → all_meet s.sets t.sets ≡ true
      → first_overflow 0 m n (numbers s) (numbers t) ≡ None → divides g (sum_of m n s t) ≡ true → may_combine m n g s t ≡ true
  allowed-may m_may n_may g_above meet fits multiples =
      true-both _ _ m_may (true-both _ _ n_may (true-both _ _ (above g g_above) (true-both _ _ meet (true-both _ _ (ap is_none fits) multiples))))
    where
      above : (z : ℤ) → pos 0 <ℤ z → int_lt (pos 0) z ≡ true
      above z h = (is_enough-Decides Above z).1 h

-- ---- the greatest common divisor

no_remainder : (g : ℕ) (z : ℤ) → g ∣ unsigned_abs z → int_eq (int_rem z (pos g)) (pos 0) ≡ true
no_remainder g z divides = (Decides-int_eq (int_rem z (pos g)) (pos 0)).1 (left (int_div z (pos g) *ℤ pos g) (int_rem z (pos g)) z
    (quotient-exact z _ g refl divides) (quot-rem z (pos g)))
  where
    left : (a r z : ℤ) → a ≡ z → a +ℤ r ≡ z → r ≡ pos 0
    left a r z is sum = omega (arith, ints, is, sum)

no_remainders : (g : ℕ) (zs : List ℤ) → All (λ z. g ∣ unsigned_abs z) zs → list_all (λ z. int_eq (int_rem z (pos g)) (pos 0)) zs ≡ true
no_remainders g [] all = refl
no_remainders g (z ∷ zs) all = true-both _ _ (no_remainder g z (all 0 z (omega arith))) (no_remainders g zs (λ k d below. all (suc k) d (omega arith)))

-- it divides all numbers of the line
pub divides-divisor : (line : LineParts) → divides (divisor_of line.factors line.constant) line ≡ true
divides-divisor line =
    list_all-append (λ z. int_eq (int_rem z (divisor_of line.factors line.constant)) (pos 0)) line.factors (line.constant ∷ [])
    ∙ true-both _ _ (no_remainders (or_one (gcd_all (line.constant ∷ line.factors))) line.factors (divides-factors line.factors line.constant))
    (true-both _ _ (no_remainder (or_one (gcd_all (line.constant ∷ line.factors))) line.constant (divides-constant line.factors line.constant)) refl)
