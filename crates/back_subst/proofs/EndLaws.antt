use Rattle.std.proofs.Common.{◌≡◌, ◌↔◌, ◌⊎◌, inl, inr, ◌&&◌, Bool, true, false, Option, Some, None, ℤ, pos, negsuc, ◌<ℤ◌, ◌≤ℤ◌, ◌+ℤ◌, ◌-ℤ◌, ◌*ℤ◌}
use Rattle.std.proofs.Common.{refl, sym, ap, ◌∙◌, subst, arith}
use lib.IntN.{neg_ℤ}
use Rattle.std.proofs.lemmas.Int.{ints}
use Rattle.fraction128.specs.Formulas.{Ratio}
use Rattle.fraction128.proofs.Signs.{above-*, above_cancel, at_least-*}
use Rattle.fraction128.proofs.Whole.{parts, ring, same_dif}
use Rattle.edit_line.specs.Lines.{IsEnough, bound_relation}
use Rattle.edit_line.proofs.Enough.{IsEnough-above, IsEnough-at_least, IsEnough-more, IsEnough-times, IsEnough_cancel, is_enough-Decides}
use Rattle.edit_line.proofs.RelationLaws.{bound_apart}
use Rattle.edit_line.proofs.SetLaws.{both_true}
use Rattle.linear_elim.proofs.BetweenLaws.{above_neg, by_sign}
use Rattle.back_subst.specs.Intervals.{End, Interval, IsEndOf, gap_from, is_past_any, is_between, halfway}
use Rattle.back_subst.proofs.IntervalLaws.{depth}

-- The ends of the interval of the allowed numbers, by these numbers alone.

sum-gaps : (s x_n x_d y_n y_d z_n z_d : ℤ) → s *ℤ (z_n *ℤ x_d -ℤ x_n *ℤ z_d) *ℤ y_d
    ≡ s *ℤ (y_n *ℤ x_d -ℤ x_n *ℤ y_d) *ℤ z_d +ℤ s *ℤ (z_n *ℤ y_d -ℤ y_n *ℤ z_d) *ℤ x_d
sum-gaps s x_n x_d y_n y_d z_n z_d = rw (parts s, parts x_n, parts x_d, parts y_n, parts y_d, parts z_n, parts z_d) (simp ring (same_dif _ _ _ _ (omega arith)))

reversed : (s x_n x_d y_n y_d : ℤ) → s *ℤ (x_n *ℤ y_d -ℤ y_n *ℤ x_d) ≡ neg_ℤ (s *ℤ (y_n *ℤ x_d -ℤ x_n *ℤ y_d))
reversed s x_n x_d y_n y_d = rw (parts s, parts x_n, parts x_d, parts y_n, parts y_d) (simp ring (same_dif _ _ _ _ (omega arith)))

middle-first : (s x_n x_d y_n y_d : ℤ) → s *ℤ ((x_n *ℤ y_d +ℤ y_n *ℤ x_d) *ℤ x_d -ℤ x_n *ℤ (pos 2 *ℤ (x_d *ℤ y_d))) ≡ s *ℤ (y_n *ℤ x_d -ℤ x_n *ℤ y_d) *ℤ x_d
middle-first s x_n x_d y_n y_d = rw (parts s, parts x_n, parts x_d, parts y_n, parts y_d) (simp ring (same_dif _ _ _ _ (omega arith)))

middle-second : (s x_n x_d y_n y_d : ℤ) → s *ℤ (y_n *ℤ (pos 2 *ℤ (x_d *ℤ y_d)) -ℤ (x_n *ℤ y_d +ℤ y_n *ℤ x_d) *ℤ y_d) ≡ s *ℤ (y_n *ℤ x_d -ℤ x_n *ℤ y_d) *ℤ y_d
middle-second s x_n x_d y_n y_d = rw (parts s, parts x_n, parts x_d, parts y_n, parts y_d) (simp ring (same_dif _ _ _ _ (omega arith)))

least-or : (z : ℤ) → (pos 0 <ℤ neg_ℤ z → ⊥) → pos 0 ≤ℤ z
least-or z none = by (by_sign z)
  where
    by : (pos 0 <ℤ z) ⊎ ((z ≡ pos 0) ⊎ (z <ℤ pos 0)) → pos 0 ≤ℤ z
    by (inl up) = omega (arith, ints)
    by (inr (inl zero_is)) = omega (arith, ints)
    by (inr (inr down)) = absurd (none (above_neg z down))

clash : (z : ℤ) → pos 0 ≤ℤ neg_ℤ z → pos 0 <ℤ z → ⊥
clash z h g = absurd (omega (arith, ints))

module _ (side : ℤ) (unit : side *ℤ side ≡ pos 1) (allowed : Ratio → Type 0) (end other : Option End)
    (exact : (x : Ratio) → pos 0 <ℤ x.denominator → allowed x ↔ ((is_past_any side end x ≡ true) × (is_past_any (neg_ℤ side) other x ≡ true)))
    (y : Ratio) (y_above : pos 0 <ℤ y.denominator) (y_allowed : allowed y) where
  -- what lies between y and another number, seen from the side, is past the other end where y is
  past-before : (x : Ratio) → pos 0 <ℤ x.denominator → pos 0 <ℤ gap_from side x y → is_past_any (neg_ℤ side) other x ≡ true
  past-before x above gap = by other ((exact y y_above).0 y_allowed).1
    where
      turned : (s x_n x_d y_n y_d : ℤ) → s *ℤ (y_n *ℤ x_d -ℤ x_n *ℤ y_d) ≡ neg_ℤ s *ℤ (x_n *ℤ y_d -ℤ y_n *ℤ x_d)
      turned s x_n x_d y_n y_d = rw (parts s, parts x_n, parts x_d, parts y_n, parts y_d) (simp ring (same_dif _ _ _ _ (omega arith)))

      by : (o : Option End) → is_past_any (neg_ℤ side) o y ≡ true → is_past_any (neg_ℤ side) o x ≡ true
      by None h = refl
      by (Some o) h =
          (is_enough-Decides (bound_relation o.strict) (depth (neg_ℤ side) o x)).1
          (IsEnough_cancel (bound_relation o.strict) (depth (neg_ℤ side) o x) y.denominator y_above
          (subst (λ (z : ℤ). IsEnough (bound_relation o.strict) z)
          (sym (sum-gaps (neg_ℤ side) o.at.numerator o.at.denominator y.numerator y.denominator x.numerator x.denominator))
          (IsEnough-more (bound_relation o.strict) (bound_relation o.strict) (depth (neg_ℤ side) o y *ℤ x.denominator)
          (neg_ℤ side *ℤ (x.numerator *ℤ y.denominator -ℤ y.numerator *ℤ x.denominator) *ℤ o.at.denominator) (bound_apart o.strict)
          (IsEnough-times (bound_relation o.strict) (depth (neg_ℤ side) o y) x.denominator above
          ((is_enough-Decides (bound_relation o.strict) (depth (neg_ℤ side) o y)).0 h))
          (above-* _ o.at.denominator (subst (λ (z : ℤ). pos 0 <ℤ z) (turned side x.numerator x.denominator y.numerator y.denominator) gap) o.positive))))

  -- the end is the innermost fraction that no allowed number is outside of
  pub end-is : (e : End) → end ≡ Some e → IsEndOf side allowed e.at
  end-is e is = record {
    none_outside =
        λ x above h. IsEnough-at_least (bound_relation e.strict) (depth side e x)
        ((is_enough-Decides (bound_relation e.strict) (depth side e x)).0 (subst (λ (o : Option End). is_past_any side o x ≡ true) is ((exact x above).0 h).0));
    innermost =
        λ w above bound. least-or (gap_from side w e.at) (λ further. contrary w above bound
        (subst (λ (z : ℤ). pos 0 <ℤ z) (sym (reversed side w.numerator w.denominator e.at.numerator e.at.denominator)) further));
  }
    where
      contrary : (w : Ratio) → pos 0 <ℤ w.denominator → ((x : Ratio) → pos 0 <ℤ x.denominator → allowed x → pos 0 ≤ℤ gap_from side w x)
          → pos 0 <ℤ gap_from side e.at w → ⊥
      contrary w above bound further =
          clash (gap_from side m w) (subst (λ (z : ℤ). pos 0 ≤ℤ z) (reversed side m.numerator m.denominator w.numerator w.denominator)
          (bound m m_above m_allowed)) m_w
        where
          m : Ratio
          m = halfway e.at w

          m_above : pos 0 <ℤ (halfway e.at w).denominator
          m_above = above-* (pos 2) (e.at.denominator *ℤ w.denominator) (omega (arith, ints)) (above-* e.at.denominator w.denominator e.positive above)

          -- the middle is inside the end, and w inside the middle
          m_e : pos 0 <ℤ depth side e (halfway e.at w)
          m_e = subst (λ (z : ℤ). pos 0 <ℤ z) (sym (middle-first side e.at.numerator e.at.denominator w.numerator w.denominator))
              (above-* (gap_from side e.at w) e.at.denominator further e.positive)

          m_w : pos 0 <ℤ gap_from side (halfway e.at w) w
          m_w = subst (λ (z : ℤ). pos 0 <ℤ z) (sym (middle-second side e.at.numerator e.at.denominator w.numerator w.denominator))
              (above-* (gap_from side e.at w) w.denominator further above)

          -- so y is inside the middle
          m_y : pos 0 <ℤ gap_from side (halfway e.at w) y
          m_y = above_cancel (gap_from side (halfway e.at w) y) w.denominator above
              (subst (λ (z : ℤ). pos 0 <ℤ z) (sym (sum-gaps side m.numerator m.denominator w.numerator w.denominator y.numerator y.denominator) ∙ refl)
              (summed (gap_from side (halfway e.at w) w) y.denominator (gap_from side w y) (halfway e.at w).denominator m_w y_above
              (bound y y_above y_allowed) m_above))
            where
              summed : (a b c d : ℤ) → pos 0 <ℤ a → pos 0 <ℤ b → pos 0 ≤ℤ c → pos 0 <ℤ d → pos 0 <ℤ (a *ℤ b +ℤ c *ℤ d)
              summed a b c d p q r t = more (above-* a b p q) (at_least-* c d r (omega (arith, ints)))
                where
                  more : {u v : ℤ} → pos 0 <ℤ u → pos 0 ≤ℤ v → pos 0 <ℤ (u +ℤ v)
                  more h g = omega (arith, ints)

          m_allowed : allowed (halfway e.at w)
          m_allowed = (exact (halfway e.at w) m_above).1 (
            subst (λ (o : Option End). is_past_any side o (halfway e.at w) ≡ true) (sym is)
                ((is_enough-Decides (bound_relation e.strict) (depth side e (halfway e.at w))).1
                (IsEnough-above (bound_relation e.strict) _ (bound_apart e.strict) m_e)),
            past-before (halfway e.at w) m_above m_y,
          )

  -- without an end there is no such fraction
  pub no-end : end ≡ None → (w : Ratio) → pos 0 <ℤ w.denominator → IsEndOf side allowed w → ⊥
  no-end is w above bound =
      clash (gap_from side out w) (subst (λ (z : ℤ). pos 0 ≤ℤ z) (reversed side out.numerator out.denominator w.numerator w.denominator)
      (bound.none_outside out above out_allowed)) out_w
    where
      -- one further out than w
      out : Ratio
      out = record { numerator = w.numerator -ℤ side *ℤ w.denominator; denominator = w.denominator }

      one-out : (s n d : ℤ) → s *ℤ (n *ℤ d -ℤ (n -ℤ s *ℤ d) *ℤ d) ≡ s *ℤ s *ℤ (d *ℤ d)
      one-out s n d = rw (parts s, parts n, parts d) (simp ring (same_dif _ _ _ _ (omega arith)))

      once : (z : ℤ) → pos 1 *ℤ z ≡ z
      once z = rw (parts z) (simp ring (same_dif _ _ _ _ (omega arith)))

      out_w : pos 0 <ℤ gap_from side (record { numerator = w.numerator -ℤ side *ℤ w.denominator; denominator = w.denominator }) w
      out_w =
          subst (λ (z : ℤ). pos 0 <ℤ z) (sym (one-out side w.numerator w.denominator ∙ ap (λ (k : ℤ). k *ℤ (w.denominator *ℤ w.denominator)) unit
          ∙ once _)) (above-* w.denominator w.denominator above above)

      out_y : pos 0 <ℤ gap_from side (record { numerator = w.numerator -ℤ side *ℤ w.denominator; denominator = w.denominator }) y
      out_y =
          above_cancel _ w.denominator above (subst (λ (z : ℤ). pos 0 <ℤ z)
          (sym (sum-gaps side (w.numerator -ℤ side *ℤ w.denominator) w.denominator w.numerator w.denominator y.numerator y.denominator))
          (summed _ y.denominator (gap_from side w y) w.denominator out_w y_above (bound.none_outside y y_above y_allowed) above))
        where
          summed : (a b c d : ℤ) → pos 0 <ℤ a → pos 0 <ℤ b → pos 0 ≤ℤ c → pos 0 <ℤ d → pos 0 <ℤ (a *ℤ b +ℤ c *ℤ d)
          summed a b c d p q r t = more (above-* a b p q) (at_least-* c d r (omega (arith, ints)))
            where
              more : {u v : ℤ} → pos 0 <ℤ u → pos 0 ≤ℤ v → pos 0 <ℤ (u +ℤ v)
              more h g = omega (arith, ints)

      out_allowed : allowed (record { numerator = w.numerator -ℤ side *ℤ w.denominator; denominator = w.denominator })
      out_allowed =
          (exact _ above).1 (
            ap (λ (o : Option End). is_past_any side o
                (record { numerator = w.numerator -ℤ side *ℤ w.denominator; denominator = w.denominator })) is,
            past-before _ above out_y,
          )

-- ---- both ends of the interval of the allowed numbers

module _ (allowed : Ratio → Type 0) (i : Interval) (exact : (x : Ratio) → pos 0 <ℤ x.denominator → allowed x ↔ (is_between i x ≡ true)) (y : Ratio)
    (y_above : pos 0 <ℤ y.denominator) (y_allowed : allowed y) where
  both : (a b : Bool) → a ≡ true → b ≡ true → (a && b) ≡ true
  both true b e h = h
  both false b e h = absurd (cc)

  low_first : (x : Ratio) → pos 0 <ℤ x.denominator → allowed x ↔ ((is_past_any (pos 1) i.lower x ≡ true) × (is_past_any (negsuc 0) i.upper x ≡ true))
  low_first x above = (λ h. both_true _ _ ((exact x above).0 h), λ h. (exact x above).1 (both _ _ h.0 h.1))

  high_first : (x : Ratio) → pos 0 <ℤ x.denominator → allowed x ↔ ((is_past_any (negsuc 0) i.upper x ≡ true) × (is_past_any (pos 1) i.lower x ≡ true))
  high_first x above = (λ h. let (low, high) = both_true _ _ ((exact x above).0 h) in (high, low), λ h. (exact x above).1 (both _ _ h.1 h.0))

  -- the lower end is the greatest fraction that no allowed number is below; without a lower end there is none
  pub lower-end : (e : End) → i.lower ≡ Some e → IsEndOf (pos 1) allowed e.at
  lower-end e is = end-is (pos 1) refl allowed i.lower i.upper low_first y y_above y_allowed e is

  pub no-lower_end : i.lower ≡ None → (w : Ratio) → pos 0 <ℤ w.denominator → IsEndOf (pos 1) allowed w → ⊥
  no-lower_end is w above = no-end (pos 1) refl allowed i.lower i.upper low_first y y_above y_allowed is w above

  -- the upper end is the least fraction that no allowed number is above
  pub upper-end : (e : End) → i.upper ≡ Some e → IsEndOf (negsuc 0) allowed e.at
  upper-end e is = end-is (negsuc 0) refl allowed i.upper i.lower high_first y y_above y_allowed e is

  pub no-upper_end : i.upper ≡ None → (w : Ratio) → pos 0 <ℤ w.denominator → IsEndOf (negsuc 0) allowed w → ⊥
  no-upper_end is w above = no-end (negsuc 0) refl allowed i.upper i.lower high_first y y_above y_allowed is w above
