use Rattle.std.proofs.Common.{◌≡◌, ◌↔◌, true, ℤ, pos, negsuc, ◌<ℤ◌, ◌+ℤ◌, ◌-ℤ◌, ◌*ℤ◌, sym, ap, ◌∙◌, subst, arith}
use lib.IntN.{neg_ℤ}
use Rattle.fraction128.specs.Formulas.{Ratio}
use Rattle.fraction128.proofs.Signs.{above-*}
use Rattle.fraction128.proofs.Whole.{parts, ring, same_dif}
use Rattle.edit_line.specs.Lines.{IsEnough, bound_relation}
use Rattle.edit_line.specs.Subsumption.{is_enough}
use Rattle.edit_line.specs.declared.relation.Relation.{Relation}
use Rattle.edit_line.proofs.Enough.{IsEnough-more, IsEnough-times, IsEnough_cancel, is_enough-Decides}
use Rattle.edit_line.proofs.RelationLaws.{bound_apart}
use Rattle.back_subst.specs.Intervals.{End, is_past}
use Rattle.back_subst.proofs.IntervalLaws.{depth}

-- Bounds beside one another.

-- ---- signs
pub once : (z : ℤ) → pos 1 *ℤ z ≡ z
once z = rw (parts z) (simp ring (same_dif _ _ _ _ (omega arith)))

pub minus : (z : ℤ) → negsuc 0 *ℤ z ≡ neg_ℤ z
minus z = rw (parts z) (simp ring (same_dif _ _ _ _ (omega arith)))

-- ---- one bound inside another
pub further-in : (s f_n f_d o_n o_d x_n x_d : ℤ) → s *ℤ (x_n *ℤ o_d -ℤ o_n *ℤ x_d) *ℤ f_d
    ≡ s *ℤ (x_n *ℤ f_d -ℤ f_n *ℤ x_d) *ℤ o_d +ℤ s *ℤ (f_n *ℤ o_d -ℤ o_n *ℤ f_d) *ℤ x_d
further-in s f_n f_d o_n o_d x_n x_d =
    rw (parts s, parts f_n, parts f_d, parts o_n, parts o_d, parts x_n, parts x_d) (simp ring (same_dif _ _ _ _ (omega arith)))

pub further : (side : ℤ) (first second : End) (x : Ratio) → pos 0 <ℤ x.denominator
    → pos 0 <ℤ (side *ℤ (first.at.numerator *ℤ second.at.denominator -ℤ second.at.numerator *ℤ first.at.denominator)) → is_past side first x ≡ true
    → is_past side second x ≡ true
further side first second x above gap past =
    (is_enough-Decides (bound_relation second.strict) (depth side second x)).1
    (IsEnough_cancel (bound_relation second.strict) (depth side second x) first.at.denominator first.positive
    (subst (λ (z : ℤ). IsEnough (bound_relation second.strict) z)
    (sym (further-in side first.at.numerator first.at.denominator second.at.numerator second.at.denominator x.numerator x.denominator))
    (IsEnough-more (bound_relation first.strict) (bound_relation second.strict) (depth side first x *ℤ second.at.denominator)
    (side *ℤ (first.at.numerator *ℤ second.at.denominator -ℤ second.at.numerator *ℤ first.at.denominator) *ℤ x.denominator) (bound_apart second.strict)
    (IsEnough-times (bound_relation first.strict) (depth side first x) second.at.denominator second.positive
    ((is_enough-Decides (bound_relation first.strict) (depth side first x)).0 past)) (above-* _ x.denominator gap above))))

-- ---- the bound of a line
pub bound-depth : (a x_n x_d r_n r_d z_n z_d : ℤ) → r_n *ℤ z_d ≡ z_n *ℤ neg_ℤ a *ℤ r_d
    → (a *ℤ x_n *ℤ r_d +ℤ r_n *ℤ x_d) *ℤ z_d ≡ a *ℤ r_d *ℤ (x_n *ℤ z_d -ℤ z_n *ℤ x_d)
bound-depth a x_n x_d r_n r_d z_n z_d h = opened a x_n x_d r_n r_d z_d ∙ ap (λ (k : ℤ). a *ℤ x_n *ℤ r_d *ℤ z_d +ℤ k *ℤ x_d) h ∙ closed a x_n x_d r_d z_n z_d
  where
    opened : (a x_n x_d r_n r_d z_d : ℤ) → (a *ℤ x_n *ℤ r_d +ℤ r_n *ℤ x_d) *ℤ z_d ≡ a *ℤ x_n *ℤ r_d *ℤ z_d +ℤ r_n *ℤ z_d *ℤ x_d
    opened a x_n x_d r_n r_d z_d = rw (parts a, parts x_n, parts x_d, parts r_n, parts r_d, parts z_d) (simp ring (same_dif _ _ _ _ (omega arith)))

    closed : (a x_n x_d r_d z_n z_d : ℤ) → a *ℤ x_n *ℤ r_d *ℤ z_d +ℤ z_n *ℤ neg_ℤ a *ℤ r_d *ℤ x_d ≡ a *ℤ r_d *ℤ (x_n *ℤ z_d -ℤ z_n *ℤ x_d)
    closed a x_n x_d r_d z_n z_d = rw (parts a, parts x_n, parts x_d, parts r_d, parts z_n, parts z_d) (simp ring (same_dif _ _ _ _ (omega arith)))

-- a positive multiple of a number is enough exactly where the number is
pub multiple : (relation : Relation) (u v k m : ℤ) → pos 0 <ℤ m → pos 0 <ℤ k → u *ℤ k ≡ v *ℤ m → (is_enough relation v ≡ true) ↔ IsEnough relation u
multiple relation u v k m m_above k_above same = (
  λ h. IsEnough_cancel relation u k k_above (subst (λ (z : ℤ). IsEnough relation z) (sym same)
      (IsEnough-times relation v m m_above ((is_enough-Decides relation v).0 h))),
  λ h. (is_enough-Decides relation v).1 (IsEnough_cancel relation v m m_above
      (subst (λ (z : ℤ). IsEnough relation z) same (IsEnough-times relation u k k_above h))),
)
