use Rattle.std.proofs.Common.{◌≡◌, ◌||◌, not, Bool, true, false, List, [], ◌∷◌, ◌⊎◌, inl, inr, ℤ, pos, negsuc, zero, suc, ◌<ℤ◌, ◌+ℤ◌, ◌-ℤ◌, ◌*ℤ◌}
use Rattle.std.proofs.Common.{refl, sym, ap, ◌∙◌, subst, arith}
use lib.IntN.{neg_ℤ}
use Rattle.std.proofs.lemmas.Int.{ints}
use Rattle.fraction128.proofs.Signs.{above-*}
use Rattle.fraction128.proofs.Whole.{comm, parts, ring, same_dif}
use Rattle.edit_line.specs.Lines.{IsEnough, bound_relation}
use Rattle.edit_line.specs.Reductions.{IsIn}
use Rattle.edit_line.proofs.Enough.{IsEnough-above, IsEnough-more, IsEnough-times, IsEnough-weaker, IsEnough_cancel}
use Rattle.edit_line.proofs.RelationLaws.{bound_apart, bound_implies}

-- Finitely many lower bounds, each below finitely many upper ones, have a fraction between them.

-- a number is above 0, is 0 or is below it
pub by_sign : (k : ℤ) → (pos 0 <ℤ k) ⊎ ((k ≡ pos 0) ⊎ (k <ℤ pos 0))
by_sign (pos zero) = inr (inl refl)
by_sign (pos (suc n)) = inl (omega (arith, ints))
by_sign (negsuc n) = inr (inr (omega (arith, ints)))

-- the negative of a number below 0
pub above_neg : (z : ℤ) → z <ℤ pos 0 → pos 0 <ℤ neg_ℤ z
above_neg z h = omega (arith, ints)

-- a bound asks that slope * value + rest is enough, where the value is v / d: one with a positive slope bounds it from below, one
-- with a negative slope from above
module _ {X : Type 0} (slope rest : X → ℤ) (strict : X → Bool) where
  abbrev pub Meets : X → ℤ → ℤ → Type 0
  Meets x v d = IsEnough (bound_relation (strict x)) (slope x *ℤ v +ℤ rest x *ℤ d)

  -- each value within the first bound is within the second
  abbrev pub Implies : X → X → Type 0
  Implies x y = (v d : ℤ) → pos 0 <ℤ d → Meets x v d → Meets y v d

  -- ---- of two bounds on one side, one implies the other

  scaled : (u w a b r s v d : ℤ) → u *ℤ b ≡ w *ℤ a → (b *ℤ v +ℤ s *ℤ d) *ℤ u ≡ (a *ℤ v +ℤ r *ℤ d) *ℤ w +ℤ (u *ℤ s -ℤ w *ℤ r) *ℤ d
  scaled u w a b r s v d e = opened u b s v d ∙ ap (λ (z : ℤ). z *ℤ v +ℤ u *ℤ s *ℤ d) e ∙ closed u w a r s v d
    where
      opened : (u b s v d : ℤ) → (b *ℤ v +ℤ s *ℤ d) *ℤ u ≡ u *ℤ b *ℤ v +ℤ u *ℤ s *ℤ d
      opened u b s v d = rw (parts u, parts b, parts s, parts v, parts d) (simp ring (same_dif _ _ _ _ (omega arith)))

      closed : (u w a r s v d : ℤ) → w *ℤ a *ℤ v +ℤ u *ℤ s *ℤ d ≡ (a *ℤ v +ℤ r *ℤ d) *ℤ w +ℤ (u *ℤ s -ℤ w *ℤ r) *ℤ d
      closed u w a r s v d = rw (parts u, parts w, parts a, parts r, parts s, parts v, parts d) (simp ring (same_dif _ _ _ _ (omega arith)))

  no_more : (z d : ℤ) → z +ℤ pos 0 *ℤ d ≡ z
  no_more z d = rw (parts z, parts d) (simp ring (same_dif _ _ _ _ (omega arith)))

  module _ (x y : X) (u w : ℤ) (u_above : pos 0 <ℤ u) (w_above : pos 0 <ℤ w) (level : u *ℤ slope y ≡ w *ℤ slope x) where
    further : pos 0 <ℤ (u *ℤ rest y -ℤ w *ℤ rest x) → Implies x y
    further more v d d_above meets =
        IsEnough_cancel (bound_relation (strict y)) _ u u_above
        (subst (λ (z : ℤ). IsEnough (bound_relation (strict y)) z) (sym (scaled u w (slope x) (slope y) (rest x) (rest y) v d level))
        (IsEnough-more (bound_relation (strict x)) (bound_relation (strict y)) _ _ (bound_apart (strict y))
        (IsEnough-times (bound_relation (strict x)) _ w w_above meets) (above-* _ d more d_above)))

    level_with : u *ℤ rest y -ℤ w *ℤ rest x ≡ pos 0 → (strict x || not (strict y)) ≡ true → Implies x y
    level_with none either v d d_above meets =
        IsEnough_cancel (bound_relation (strict y)) _ u u_above (subst (λ (z : ℤ). IsEnough (bound_relation (strict y)) z)
        (sym (scaled u w (slope x) (slope y) (rest x) (rest y) v d level ∙ ap (λ (k : ℤ). (slope x *ℤ v +ℤ rest x *ℤ d) *ℤ w +ℤ k *ℤ d) none ∙ no_more _ d))
        (IsEnough-weaker (bound_relation (strict x)) (bound_relation (strict y)) _ (bound_implies (strict x) (strict y) ∙ either)
        (IsEnough-times (bound_relation (strict x)) _ w w_above meets)))

  turned_above : (a b : ℤ) → (a -ℤ b) <ℤ pos 0 → pos 0 <ℤ (b -ℤ a)
  turned_above a b h = omega (arith, ints)

  turned_none : (a b : ℤ) → a -ℤ b ≡ pos 0 → b -ℤ a ≡ pos 0
  turned_none a b h = omega (arith, ints)

  one_implies : (x y : X) (u w : ℤ) → pos 0 <ℤ u → pos 0 <ℤ w → u *ℤ slope y ≡ w *ℤ slope x → Implies x y ⊎ Implies y x
  one_implies x y u w u_above w_above level =
      elim (by_sign (u *ℤ rest y -ℤ w *ℤ rest x)) [
        | inl more ↦ inl (further x y u w u_above w_above level more)
        | inr other ↦ elim other [
          | inl none ↦ by (strict x) (strict y) refl refl none
          | inr less ↦ inr (further y x w u w_above u_above (sym level) (turned_above (u *ℤ rest y) (w *ℤ rest x) less))
        ]
      ]
    where
      by : (s t : Bool) → strict x ≡ s → strict y ≡ t → u *ℤ rest y -ℤ w *ℤ rest x ≡ pos 0 → Implies x y ⊎ Implies y x
      by true t first second none = inl (level_with x y u w u_above w_above level none (ap (λ b. b || not (strict y)) first))
      by false false first second none = inl (level_with x y u w u_above w_above level none (ap (λ b. b || not (strict y)) first ∙ ap not second))
      by false true first second none =
          inr (level_with y x w u w_above u_above (sym level) (turned_none (u *ℤ rest y) (w *ℤ rest x) none) (ap (λ b. b || not (strict x)) second))

  -- two lower bounds
  pub lower_implies : (x y : X) → pos 0 <ℤ slope x → pos 0 <ℤ slope y → Implies x y ⊎ Implies y x
  lower_implies x y x_above y_above = one_implies x y (slope x) (slope y) x_above y_above (comm (slope x) (slope y))

  -- and two upper ones
  pub upper_implies : (x y : X) → slope x <ℤ pos 0 → slope y <ℤ pos 0 → Implies x y ⊎ Implies y x
  upper_implies x y x_below y_below =
      one_implies x y (neg_ℤ (slope x)) (neg_ℤ (slope y)) (above_neg (slope x) x_below) (above_neg (slope y) y_below) (negatives (slope x) (slope y))
    where
      negatives : (a b : ℤ) → neg_ℤ a *ℤ b ≡ neg_ℤ b *ℤ a
      negatives a b = rw (parts a, parts b) (simp ring (same_dif _ _ _ _ (omega arith)))

  -- ---- so one of finitely many implies all the others

  implies-through : (x y z : X) → Implies x y → Implies y z → Implies x z
  implies-through x y z first second v d above meets = second v d above (first v d above meets)

  -- a bound among these that implies each of them
  pub record IsTightest (bounds : List X) (best : X) : Type 0 where
    pub there : IsIn best bounds
    pub tightest : (x : X) → IsIn x bounds → Implies best x

  -- the tightest of some bounds
  pub tightest : (x : X) (bounds : List X) → ((y z : X) → IsIn y (x ∷ bounds) → IsIn z (x ∷ bounds) → Implies y z ⊎ Implies z y)
      → (best : X) × IsTightest (x ∷ bounds) best
  tightest x [] either = (x, record { there = inl refl; tightest = one })
    where
      one : (y : X) → IsIn y (x ∷ []) → Implies x y
      one y (inl same) = subst (λ (z : X). Implies x z) (sym same) (λ v d above meets. meets)
      one y (inr none) = absurd none
  tightest x (y ∷ bounds) either =
      let (best, is) = tightest y bounds (λ z w z_in w_in. either z w (inr z_in) (inr w_in)) in
      elim (either x best (inl refl) (inr is.there)) [
        | inl first ↦ (x, record { there = inl refl; tightest = through best is first })
        | inr second ↦ (best, record { there = inr is.there; tightest = added best is second })
      ]
    where
      through : (best : X) → IsTightest (y ∷ bounds) best → Implies x best → (z : X) → IsIn z (x ∷ (y ∷ bounds)) → Implies x z
      through best is first z (inl same) = subst (λ (w : X). Implies x w) (sym same) (λ v d above meets. meets)
      through best is first z (inr there) = implies-through x best z first (is.tightest z there)

      added : (best : X) → IsTightest (y ∷ bounds) best → Implies best x → (z : X) → IsIn z (x ∷ (y ∷ bounds)) → Implies best z
      added best is second z (inl same) = subst (λ (w : X). Implies best w) (sym same) second
      added best is second z (inr there) = is.tightest z there

  -- ---- a value within a bound, and between two

  -- a value v / d that is within each of these bounds
  pub record IsWithin (bounds : List X) (v d : ℤ) : Type 0 where
    pub above : pos 0 <ℤ d
    pub within : (x : X) → IsIn x bounds → Meets x v d

  -- past a lower bound
  past_lower : (a r : ℤ) → a ≡ a *ℤ (pos 1 -ℤ r) +ℤ r *ℤ a
  past_lower a r = rw (parts a, parts r) (simp ring (same_dif _ _ _ _ (omega arith)))

  -- past an upper one
  past_upper : (b r : ℤ) → neg_ℤ b ≡ b *ℤ (r -ℤ pos 1) +ℤ r *ℤ neg_ℤ b
  past_upper b r = rw (parts b, parts r) (simp ring (same_dif _ _ _ _ (omega arith)))

  -- the middle of the ends of two bounds is (r * b + s * a) / (2 * a * -b)
  middle_lower : (a r b s : ℤ) → (a *ℤ s -ℤ b *ℤ r) *ℤ a ≡ a *ℤ (r *ℤ b +ℤ s *ℤ a) +ℤ r *ℤ (pos 2 *ℤ (a *ℤ neg_ℤ b))
  middle_lower a r b s = rw (parts a, parts r, parts b, parts s) (simp ring (same_dif _ _ _ _ (omega arith)))

  middle_upper : (a r b s : ℤ) → (a *ℤ s -ℤ b *ℤ r) *ℤ neg_ℤ b ≡ b *ℤ (r *ℤ b +ℤ s *ℤ a) +ℤ s *ℤ (pos 2 *ℤ (a *ℤ neg_ℤ b))
  middle_upper a r b s = rw (parts a, parts r, parts b, parts s) (simp ring (same_dif _ _ _ _ (omega arith)))

  twice-above : (z : ℤ) → pos 0 <ℤ z → pos 0 <ℤ (pos 2 *ℤ z)
  twice-above z h = above-* (pos 2) z (omega (arith, ints)) h

  or_first : (a b : Bool) → (a || b || not a) ≡ true
  or_first true b = refl
  or_first false true = refl
  or_first false false = refl

  or_second : (a b : Bool) → (a || b || not b) ≡ true
  or_second true b = refl
  or_second false true = refl
  or_second false false = refl

  -- the two bounds leave a value between them, if only their common end
  abbrev pub LeavesValue : X → X → Type 0
  LeavesValue x y = IsEnough (bound_relation (strict x || strict y)) (slope x *ℤ rest y -ℤ slope y *ℤ rest x)

  -- from the tightest bound, all of that side
  all_within : (bounds : List X) (best : X) (v d : ℤ) → IsTightest bounds best → pos 0 <ℤ d → Meets best v d → (x : X) → IsIn x bounds → Meets x v d
  all_within bounds best v d is above meets x there = is.tightest x there v d above meets

  -- a value within all lower and all upper bounds, where each pair leaves one
  pub between : (lowers uppers : List X) → ((x : X) → IsIn x lowers → pos 0 <ℤ slope x) → ((y : X) → IsIn y uppers → slope y <ℤ pos 0)
      → ((x y : X) → IsIn x lowers → IsIn y uppers → LeavesValue x y) → (v : ℤ) × (d : ℤ) × IsWithin lowers v d × IsWithin uppers v d
  between [] [] rising falling leaves = (
    pos 0,
    pos 1,
    record { above = omega (arith, ints); within = λ x none. absurd none },
    record { above = omega (arith, ints); within = λ x none. absurd none },
  )
  between (x ∷ lowers) [] rising falling leaves =
      let (best, is) = tightest x lowers (λ y z y_in z_in. lower_implies y z (rising y y_in) (rising z z_in)) in
      let above : pos 0 <ℤ slope best = rising best is.there in
      let meets : Meets best (pos 1 -ℤ rest best) (slope best) = subst (λ (z : ℤ). IsEnough (bound_relation (strict best)) z)
      (past_lower (slope best) (rest best)) (IsEnough-above (bound_relation (strict best)) (slope best) (bound_apart (strict best)) above) in (
        pos 1 -ℤ rest best,
        slope best,
        record { above = above; within = all_within (x ∷ lowers) best _ _ is above meets },
        record { above = above; within = λ x none. absurd none },
      )
  between [] (y ∷ uppers) rising falling leaves =
      let (best, is) = tightest y uppers (λ w z w_in z_in. upper_implies w z (falling w w_in) (falling z z_in)) in
      let above : pos 0 <ℤ neg_ℤ (slope best) = above_neg (slope best) (falling best is.there) in
      let meets : Meets best (rest best -ℤ pos 1) (neg_ℤ (slope best)) = subst (λ (z : ℤ). IsEnough (bound_relation (strict best)) z)
      (past_upper (slope best) (rest best)) (IsEnough-above (bound_relation (strict best)) (neg_ℤ (slope best)) (bound_apart (strict best)) above) in (
        rest best -ℤ pos 1,
        neg_ℤ (slope best),
        record { above = above; within = λ x none. absurd none },
        record { above = above; within = all_within (y ∷ uppers) best _ _ is above meets },
      )
  between (x ∷ lowers) (y ∷ uppers) rising falling leaves =
      let (low, low_is) = tightest x lowers (λ w z w_in z_in. lower_implies w z (rising w w_in) (rising z z_in)) in
      let (high, high_is) = tightest y uppers (λ w z w_in z_in. upper_implies w z (falling w w_in) (falling z z_in)) in
      let low_above : pos 0 <ℤ slope low = rising low low_is.there in
      let high_above : pos 0 <ℤ neg_ℤ (slope high) = above_neg (slope high) (falling high high_is.there) in
      let above : pos 0 <ℤ (pos 2 *ℤ (slope low *ℤ neg_ℤ (slope high))) = twice-above _ (above-* (slope low) (neg_ℤ (slope high)) low_above high_above) in
      let enough : LeavesValue low high = leaves low high low_is.there high_is.there in
      let v : ℤ = rest low *ℤ slope high +ℤ rest high *ℤ slope low in
      let low_meets : Meets low v (pos 2 *ℤ (slope low *ℤ neg_ℤ (slope high))) =
      subst (λ (z : ℤ). IsEnough (bound_relation (strict low)) z) (middle_lower (slope low) (rest low) (slope high) (rest high))
      (IsEnough-times (bound_relation (strict low)) _ (slope low) low_above
      (IsEnough-weaker (bound_relation (strict low || strict high)) (bound_relation (strict low)) _
      (bound_implies (strict low || strict high) (strict low) ∙ or_first (strict low) (strict high)) enough)) in
      let high_meets : Meets high v (pos 2 *ℤ (slope low *ℤ neg_ℤ (slope high))) =
      subst (λ (z : ℤ). IsEnough (bound_relation (strict high)) z) (middle_upper (slope low) (rest low) (slope high) (rest high))
      (IsEnough-times (bound_relation (strict high)) _ (neg_ℤ (slope high)) high_above
      (IsEnough-weaker (bound_relation (strict low || strict high)) (bound_relation (strict high)) _
      (bound_implies (strict low || strict high) (strict high) ∙ or_second (strict low) (strict high)) enough)) in (
        v,
        pos 2 *ℤ (slope low *ℤ neg_ℤ (slope high)),
        record { above = above; within = all_within (x ∷ lowers) low _ _ low_is above low_meets },
        record { above = above; within = all_within (y ∷ uppers) high _ _ high_is above high_meets },
      )
