use Rattle.std.proofs.Common.{int_lt, ◌≡◌, ◌≢◌, ◌↔◌, ◌⊎◌, inl, inr, ℕ, zero, suc, ◌==◌, ◌||◌, ◌&&◌, not, Bool, true, false, if◌then◌else◌, List, []}
use Rattle.std.proofs.Common.{◌∷◌, All, IsTrue, slice_set, ℤ, pos, negsuc, ◌<ℤ◌, ◌+ℤ◌, ◌-ℤ◌, ◌*ℤ◌, refl, sym, ap, ◌∙◌, subst, arith}
use lib.IntN.{neg_ℤ}
use Rattle.std.specs.List.{filter}
use Rattle.std.specs.Ordering.{int_eq}
use Rattle.std.proofs.lemmas.Bool.Decides.{Decides-eqb, Decides-int_eq}
use Rattle.std.proofs.lemmas.Int.{ints}
use Rattle.fraction128.specs.Formulas.{Ratio}
use Rattle.fraction128.proofs.Signs.{above-*}
use Rattle.fraction128.proofs.Whole.{parts, ring, same_dif}
use Rattle.edit_model.specs.Parts.{SurveyParts}
use Rattle.edit_model.specs.Points.{Point}
use Rattle.edit_model.specs.RowPoints.{Agrees, code_in}
use Rattle.edit_model.specs.Rows.{IsRow, value_of}
use Rattle.edit_model.specs.Corrections.{differs_from}
use Rattle.edit_model.specs.Trials.{IsCodeValue}
use Rattle.edit_model.specs.declared.value.Value.{Value}
use Rattle.edit_model.specs.declared.value.Value.TheVariants.{Bad, Code, Number}
use Rattle.edit_line.specs.CodeFields.{codes_in}
use Rattle.edit_line.specs.Lines.{HaveShape, IsEnough, LineParts, factor}
use Rattle.edit_line.specs.Reductions.{IsIn}
use Rattle.edit_line.specs.Sets.{AreCodesIn, are_codes_in}
use Rattle.edit_line.specs.Subsumption.{is_enough}
use Rattle.edit_line.specs.declared.relation.Relation.{Relation}
use Rattle.edit_line.specs.Shapes.{Domain, IsNumerical, code_fields, codes_at, has_field, number_fields, shape_of}
use Rattle.edit_line.proofs.Enough.{IsEnough-times, IsEnough_cancel, is_enough-Decides}
use Rattle.edit_line.proofs.Members.{in-all, in-filter, in-filter-out}
use Rattle.edit_line.proofs.SetLaws.{both_true, is_inside-Decides}
use Rattle.linear_elim.specs.Systems.{system}
use Rattle.linear_elim.proofs.BetweenLaws.{above_neg, by_sign}
use Rattle.linear_elim.proofs.PointLaws.{map-agree, put-code, put-differs, rest_at}
use Rattle.linear_elim.proofs.SystemLaws.{HaveShape-system}
use Rattle.back_subst.specs.Allowed.{AllowsNumber, Completes}
use Rattle.back_subst.specs.Intervals.{Interval, is_between}
use Rattle.back_subst.specs.NumberWalk.{FoundBounds, bounded_by, no_bounds}
use Rattle.back_subst.specs.inner.Bounds.{AreWithinBounds, BoundsField, DecideFor, IsWithinBound, RestsFit}
use Rattle.back_subst.proofs.AllowedNumbers.{IsBoundedAt, allowed-bounded}
use Rattle.edit_line.proofs.FactorLaws.{factor-numerical}
use Rattle.linear_elim.proofs.PointLaws.{number-no_code}
use Rattle.back_subst.specs.inner.Sides.{side_of}
use Rattle.back_subst.proofs.NumberWalkLaws.{AreProper, between-within, bounds-proper, bounds-within, inside_at, interval_of, within_found}
use Rattle.back_subst.proofs.FieldPoints.{Agrees-carried, agrees-held, code-at, number-at, number-listed}
use Rattle.back_subst.proofs.Rests.{Adds, rest-over, value-other, value-set, without_number}
use Rattle.linear_elim.proofs.FlatLaws.{system-flat}

-- The numbers that a field may be given, by the record's rests; and that they are an interval.

pub code-agreed : (v : Value) (p : Point) (f : ℕ) → IsCodeValue v → differs_from v p f ≡ false → p.code f ≡ code_in v
code-agreed (Code c) p f is agrees = sym ((Decides-eqb c (p.code f)).0 (yes _ agrees))
  where
    yes : (b : Bool) → not b ≡ false → b ≡ true
    yes true h = refl
    yes false h = absurd (cc)
code-agreed (Number x) p f is agrees = absurd is
code-agreed Bad p f is agrees = absurd is

-- a bound by a point's rest is the bound by the rest over the point's denominator
same_bound : (a x_n x_d d r_n r_d r : ℤ) → r_n *ℤ d ≡ r *ℤ r_d → (a *ℤ (x_n *ℤ d) +ℤ r *ℤ x_d) *ℤ r_d ≡ (a *ℤ x_n *ℤ r_d +ℤ r_n *ℤ x_d) *ℤ d
same_bound a x_n x_d d r_n r_d r h = opened a x_n x_d d r_d r ∙ ap (λ (k : ℤ). a *ℤ x_n *ℤ d *ℤ r_d +ℤ k *ℤ x_d) (sym h) ∙ closed a x_n x_d d r_n r_d
  where
    opened : (a x_n x_d d r_d r : ℤ) → (a *ℤ (x_n *ℤ d) +ℤ r *ℤ x_d) *ℤ r_d ≡ a *ℤ x_n *ℤ d *ℤ r_d +ℤ r *ℤ r_d *ℤ x_d
    opened a x_n x_d d r_d r = rw (parts a, parts x_n, parts x_d, parts d, parts r_d, parts r) (simp ring (same_dif _ _ _ _ (omega arith)))

    closed : (a x_n x_d d r_n r_d : ℤ) → a *ℤ x_n *ℤ d *ℤ r_d +ℤ r_n *ℤ d *ℤ x_d ≡ (a *ℤ x_n *ℤ r_d +ℤ r_n *ℤ x_d) *ℤ d
    closed a x_n x_d d r_n r_d = rw (parts a, parts x_n, parts x_d, parts d, parts r_n, parts r_d) (simp ring (same_dif _ _ _ _ (omega arith)))

pub bound-over : (line : LineParts) (f : ℕ) (p : Point) (r x : Ratio) → r.numerator *ℤ p.denominator ≡ rest_at line f p *ℤ r.denominator
    → pos 0 <ℤ r.denominator → IsBoundedAt p f x line ↔ IsWithinBound line f r x
bound-over line f p r x over above =
    let same = same_bound (factor line f) x.numerator x.denominator p.denominator r.numerator r.denominator (rest_at line f p) over in (
      λ h. IsEnough_cancel line.relation _ p.denominator p.positive
          (subst (λ (z : ℤ). IsEnough line.relation z) same (IsEnough-times line.relation _ r.denominator above h)),
      λ h. IsEnough_cancel line.relation _ r.denominator above
          (subst (λ (z : ℤ). IsEnough line.relation z) (sym same) (IsEnough-times line.relation _ p.denominator p.positive h)),
    )

module _ (survey : SurveyParts) (edits : List LineParts) (row : List Value) (f : ℕ) (before : List ℕ)
    (is_row : IsRow survey.fields row) (over : HaveShape (shape_of survey.fields) edits) (decide : DecideFor survey edits row (f ∷ before))
    (number : IsNumerical (shape_of survey.fields) f) (numbers : All (IsNumerical (shape_of survey.fields)) before) (other : has_field before f ≡ false)
    (p : Point) (completes : Completes survey row (f ∷ before) p) where
  abbrev shape : List Domain
  shape = shape_of survey.fields

  abbrev lines : List LineParts
  lines = system edits before

  shape-of : (line : LineParts) → IsIn line lines → line.shape ≡ shape
  shape-of line there = in-all (λ l. l.shape ≡ shape) line lines (λ k d below. (HaveShape-system shape edits before over k d below).same) there

  all_numbers : All (IsNumerical shape) (f ∷ before)
  all_numbers zero d below = number
  all_numbers (suc k) d below = numbers k d (omega arith)

  kept-code : (i : ℕ) → has_field (code_fields shape) i ≡ true → has_field (f ∷ before) i ≡ false
  kept-code i there = by (has_field (f ∷ before) i) refl
    where
      by : (b : Bool) → has_field (f ∷ before) i ≡ b → b ≡ false
      by false e = refl
      by true e = absurd (cc (sym there ∙ number-no_code i 0 shape (number-listed shape (f ∷ before) i all_numbers e)))

  -- the point's codes are the record's
  codes-are : codes_at shape p ≡ codes_in shape row
  codes-are = map-agree p.code (λ i. code_in (value_of row i)) (code_fields shape) (λ i there.
      let (of_code, within) = code-at survey.fields row i is_row there in
      let agrees = completes.agrees i within (kept-code i there) in
      code-agreed (value_of row i) p i (of_code (agrees-held row p i agrees)) agrees)

  -- the numbers that stand in a line are the record's, but at f
  adds-all : (line : LineParts) → IsIn line lines → (i : ℕ) → factor line i ≢ pos 0 → Adds (without_number p f) (value_of (slice_set row f Bad) i) i
  adds-all line there i some = by (f == i) refl
    where
      numerical : has_field (number_fields shape) i ≡ true
      numerical = subst (λ (s : List Domain). has_field (number_fields s) i ≡ true) (shape-of line there) (factor-numerical line i some)

      outside : (b : Bool) → has_field before i ≡ b → b ≡ false
      outside false e = refl
      outside true e = absurd (some (in-all (λ l. factor l i ≡ pos 0) line lines (system-flat shape edits before i over e) there))

      own : (b : Bool) → b ≡ true → (if b then pos 0 else p.numerator f *ℤ pos 1) ≡ pos 0
      own true e = refl
      own false e = absurd (cc)

      by : (b : Bool) → (f == i) ≡ b → Adds (without_number p f) (value_of (slice_set row f Bad) i) i
      by true e =
          let same : f ≡ i = (Decides-eqb f i).0 e in
          subst (λ (j : ℕ). Adds (without_number p f) (value_of (slice_set row f Bad) j) j) same
          (inr (value-set row f Bad (number-at survey.fields row f is_row number).1, own (f == f) ((Decides-eqb f f).1 refl)))
      by false e =
          let apart : f ≢ i = λ same. absurd (cc (sym e ∙ (Decides-eqb f i).1 same)) in
          let (of_number, within) = number-at survey.fields row i is_row numerical in
          let agrees : Agrees row p i = completes.agrees i within (ap (λ b. b || has_field before i) e ∙ outside (has_field before i) refl) in
          let at_zero : Agrees row (without_number p f) i =
          Agrees-carried row p (without_number p f) i (put-code p f (pos 0) (pos 1) (omega (arith, ints)) i)
          ((put-differs p f (p.code f) (pos 0) (pos 1) (omega (arith, ints))).numbers i (λ same. apart (sym same))) agrees in
          subst (λ (v : Value). Adds (without_number p f) v i) (sym (value-other row f i Bad apart)) (inl (of_number (agrees-held row p i agrees), at_zero))

  -- where the rests are in range, the numbers allowed at f are those within the bounds that the lines of the system give at the record
  pub allowed-within : RestsFit lines row f → (x : Ratio) → pos 0 <ℤ x.denominator → AllowsNumber survey row (f ∷ before) f x ↔ AreWithinBounds lines row f x
  allowed-within fit x above =
      let law = allowed-bounded survey edits row f before is_row over decide number numbers other p completes x above in (
        λ allowed line r there bounds rest.
            let at_record = rest-over line row p f r (adds-all line there) rest in
            (bound-over line f p r x at_record.0 at_record.1).0
            (law.0 allowed line there (subst (λ (cs : List ℕ). AreCodesIn line.sets cs)
            (ap (λ s. codes_in s row) (shape-of line there) ∙ sym codes-are) bounds.codes) bounds.stands),
        λ within. law.1 (λ line there inside some.
            let bounds : BoundsField line row f = record {
              codes = subst (λ (cs : List ℕ). AreCodesIn line.sets cs)
                  (codes-are ∙ ap (λ s. codes_in s row) (sym (shape-of line there))) inside;
              stands = some;
            } in
            let (r, rest) = fit line there bounds in
            let at_record = rest-over line row p f r (adds-all line there) rest in
            (bound-over line f p r x at_record.0 at_record.1).1 (within line r there bounds rest)),
      )

  -- ---- the allowed numbers are an interval

  -- the lines that bound f
  abbrev bounding : List LineParts
  bounding = filter (λ l. not (int_eq (factor l f) (pos 0)) && are_codes_in l.sets (codes_at shape p)) lines

  abbrev Meets_all : List LineParts → Ratio → Type 0
  Meets_all bounds x = (line : LineParts) → IsIn line bounds → IsBoundedAt p f x line

  -- bounds that leave the numbers that meet all these lines
  record AreBoundsOf (bounds : List LineParts) (ends : FoundBounds) : Type 0 where
    pub proper : AreProper ends
    pub tells : (x : Ratio) → pos 0 <ℤ x.denominator → (within_found ends x ≡ true) ↔ Meets_all bounds x

  -- a lower bound
  low-past : (a x_n x_d d r : ℤ) → a *ℤ (x_n *ℤ d) +ℤ r *ℤ x_d ≡ pos 1 *ℤ (x_n *ℤ (a *ℤ d) -ℤ neg_ℤ r *ℤ x_d)
  low-past a x_n x_d d r = rw (parts a, parts x_n, parts x_d, parts d, parts r) (simp ring (same_dif _ _ _ _ (omega arith)))

  -- and an upper one
  high-past : (a x_n x_d d r : ℤ) → a *ℤ (x_n *ℤ d) +ℤ r *ℤ x_d ≡ negsuc 0 *ℤ (x_n *ℤ (neg_ℤ a *ℤ d) -ℤ r *ℤ x_d)
  high-past a x_n x_d d r = rw (parts a, parts x_n, parts x_d, parts d, parts r) (simp ring (same_dif _ _ _ _ (omega arith)))

  -- the number at which a line bounds f
  record IsBoundOf (line : LineParts) (at : Ratio) : Type 0 where
    pub above : pos 0 <ℤ at.denominator
    pub says : (x : Ratio) → (is_enough line.relation (inside_at (int_lt (pos 0) (factor line f)) at x) ≡ true) ↔ IsBoundedAt p f x line

  same-enough : (relation : Relation) (y z : ℤ) → y ≡ z → (is_enough relation z ≡ true) ↔ IsEnough relation y
  same-enough relation y z same = (
    λ h. subst (λ (k : ℤ). IsEnough relation k) (sym same) ((is_enough-Decides relation z).0 h),
    λ h. (is_enough-Decides relation z).1 (subst (λ (k : ℤ). IsEnough relation k) same h),
  )

  bound_of : (line : LineParts) → factor line f ≢ pos 0 → (at : Ratio) × IsBoundOf line at
  bound_of line some = by (by_sign (factor line f))
    where
      rising : (a : ℤ) → pos 0 <ℤ a → int_lt (pos 0) a ≡ true
      rising a h = grind (arith, ints)

      falling : (a : ℤ) → a <ℤ pos 0 → int_lt (pos 0) a ≡ false
      falling a h = grind (arith, ints)

      by : (pos 0 <ℤ factor line f) ⊎ ((factor line f ≡ pos 0) ⊎ (factor line f <ℤ pos 0)) → (at : Ratio) × IsBoundOf line at
      by (inl above) = (
        record { numerator = neg_ℤ (rest_at line f p); denominator = factor line f *ℤ p.denominator },
        record {
          above = above-* (factor line f) p.denominator above p.positive;
          says = λ x. same-enough line.relation _ _ (low-past (factor line f) x.numerator x.denominator p.denominator (rest_at line f p)
              ∙ ap (λ b. side_of b *ℤ (x.numerator *ℤ (factor line f *ℤ p.denominator) -ℤ neg_ℤ (rest_at line f p) *ℤ x.denominator))
              (sym (rising (factor line f) above)));
        },
      )
      by (inr (inl none)) = absurd (some none)
      by (inr (inr below)) = (
        record { numerator = rest_at line f p; denominator = neg_ℤ (factor line f) *ℤ p.denominator },
        record {
          above = above-* (neg_ℤ (factor line f)) p.denominator (above_neg (factor line f) below) p.positive;
          says = λ x. same-enough line.relation _ _ (high-past (factor line f) x.numerator x.denominator p.denominator (rest_at line f p)
              ∙ ap (λ b. side_of b *ℤ (x.numerator *ℤ (neg_ℤ (factor line f) *ℤ p.denominator) -ℤ rest_at line f p *ℤ x.denominator))
              (sym (falling (factor line f) below)));
        },
      )

  both : (a b : Bool) → a ≡ true → b ≡ true → (a && b) ≡ true
  both true b e h = h
  both false b e h = absurd (cc)

  bounds_of : (bounds : List LineParts) → ((l : LineParts) → IsIn l bounds → factor l f ≢ pos 0) → (ends : FoundBounds) × AreBoundsOf bounds ends
  bounds_of [] some = (no_bounds, record { proper = (tt, tt); tells = λ x above. (λ _ line none. absurd none, λ _. refl) })
  bounds_of (line ∷ bounds) some =
      let (ends, is) = bounds_of bounds (λ l there. some l (inr there)) in
      let (at, here) = bound_of line (some line (inl refl)) in (
        bounded_by line.relation ends (int_lt (pos 0) (factor line f)) at 0,
        record {
          proper = bounds-proper line.relation ends (int_lt (pos 0) (factor line f)) at 0 is.proper here.above;
          tells = λ x above.
              let same = bounds-within line.relation ends (int_lt (pos 0) (factor line f)) at 0 is.proper here.above x above in (
                λ h. let (before, own) = both_true _ _ (sym same ∙ h) in met x ((here.says x).0 own) ((is.tells x above).0 before),
                λ meets. same ∙ both _ _ ((is.tells x above).1 (λ l there. meets l (inr there))) ((here.says x).1 (meets line (inl refl))),
              );
        },
      )
    where
      met : (x : Ratio) → IsBoundedAt p f x line → Meets_all bounds x → Meets_all (line ∷ bounds) x
      met x own rest l (inl same) = subst (λ (k : LineParts). IsBoundedAt p f x k) (sym same) own
      met x own rest l (inr there) = rest l there

  -- where some correction completes the record, the numbers allowed at f are an interval that is not empty, and its ends are fractions
  pub allowed-interval : (i : Interval) × ((x : Ratio) → pos 0 <ℤ x.denominator → AllowsNumber survey row (f ∷ before) f x ↔ IsTrue (is_between i x))
      × ((x : Ratio) × (pos 0 <ℤ x.denominator) × AllowsNumber survey row (f ∷ before) f x)
  allowed-interval =
      let (ends, is) = bounds_of bounding (λ l there. stands l (both_true _ _ (in-filter-out _ l lines there).1).0) in (
        interval_of ends is.proper,
        λ x above. exact x above ends is,
        (record { numerator = p.numerator f; denominator = p.denominator }, p.positive, (p, completes, refl)),
      )
    where
      stands : (l : LineParts) → not (int_eq (factor l f) (pos 0)) ≡ true → factor l f ≢ pos 0
      stands l h none = absurd (cc (sym h ∙ ap not ((Decides-int_eq (factor l f) (pos 0)).1 none)))

      told : (l : LineParts) → factor l f ≢ pos 0 → not (int_eq (factor l f) (pos 0)) ≡ true
      told l some = by (int_eq (factor l f) (pos 0)) refl
        where
          by : (b : Bool) → int_eq (factor l f) (pos 0) ≡ b → not b ≡ true
          by false e = refl
          by true e = absurd (some ((Decides-int_eq (factor l f) (pos 0)).0 e))

      exact : (x : Ratio) → pos 0 <ℤ x.denominator → (ends : FoundBounds) (is : AreBoundsOf bounding ends)
          → AllowsNumber survey row (f ∷ before) f x ↔ IsTrue (is_between (interval_of ends is.proper) x)
      exact x above ends is =
          let law = allowed-bounded survey edits row f before is_row over decide number numbers other p completes x above in (
            λ allowed. between-within ends is.proper x ∙ (is.tells x above).1 (λ line there.
                let (was, passes) = in-filter-out (λ l. not (int_eq (factor l f) (pos 0)) && are_codes_in l.sets (codes_at shape p)) line lines there in
                let (some, inside) = both_true _ _ passes in
                law.0 allowed line was ((is_inside-Decides line.sets (codes_at shape p)).0 inside) (stands line some)),
            λ within. law.1 (λ line there inside some.
                (is.tells x above).0 (sym (between-within ends is.proper x) ∙ within) line
                (in-filter (λ l. not (int_eq (factor l f) (pos 0)) && are_codes_in l.sets (codes_at shape p)) line lines
                (both _ _ (told line some) ((is_inside-Decides line.sets (codes_at shape p)).1 inside)) there)),
          )
