use Rattle.std.proofs.Common.{◌≡◌, ◌≢◌, ◌↔◌, ◌⊎◌, inl, inr, ℕ, suc, ◌||◌, ◌&&◌, not, Bool, true, false, if◌then◌else◌, List, [], ◌∷◌, Option, Some}
use Rattle.std.proofs.Common.{None, Result, Ok, Err, slice_set, int_lt, ℤ, pos, negsuc, ◌<ℤ◌, ◌≤ℤ◌, ◌+ℤ◌, ◌-ℤ◌, ◌*ℤ◌, refl, sym, ap, ◌∙◌, subst}
use Rattle.std.proofs.Common.{arith}
use lib.IntN.{neg_ℤ}
use Rattle.std.specs.Ordering.{int_eq}
use Rattle.std.proofs.lemmas.Bool.Decides.{Decides-int_eq}
use Rattle.std.proofs.lemmas.Int.{ints}
use Rattle.std.specs.Option.{ok_or}
use Rattle.std.specs.Result.{result_ok}
use Rattle.foundation.specs.Results.{◌>>=◌}
use Rattle.foundation.specs.Options.{◌>>?◌}
use Rattle.fraction128.specs.Formulas.{Ratio, added, divided, ratio_of, scaled}
use Rattle.fraction128.proofs.MiddleLaws.{middle-value}
use Rattle.fraction128.proofs.QuotientLaws.{divided-value}
use Rattle.fraction128.proofs.RatioLaws.{added-value, scaled-value}
use Rattle.fraction128.proofs.Signs.{above-*}
use Rattle.fraction128.proofs.Whole.{parts, ring, same_dif}
use Rattle.edit_model.specs.declared.value.Value.{Value}
use Rattle.edit_line.specs.CodeFields.{codes_in}
use Rattle.edit_line.specs.Lines.{IsEnough, LineParts, bound_relation, factor}
use Rattle.edit_line.specs.Reductions.{IsIn}
use Rattle.edit_line.specs.Sets.{are_codes_in}
use Rattle.edit_line.specs.Subsumption.{is_enough}
use Rattle.edit_line.specs.Shapes.{number_fields}
use Rattle.edit_line.specs.declared.relation.Relation.{Relation}
use Rattle.edit_line.specs.declared.relation.Relation.TheVariants.{Above, AtLeast, Equal}
use Rattle.edit_line.specs.Sums.{next_sum, sum_from, whole}
use Rattle.edit_model.specs.Rows.{value_of}
use Rattle.edit_model.specs.Trials.{sum_with}
use Rattle.edit_model.specs.declared.value.Value.TheVariants.{Bad, Code, Number}
use Rattle.edit_line.proofs.Enough.{IsEnough-times, IsEnough-weaker, IsEnough_cancel, is_enough-Decides}
use Rattle.edit_line.proofs.RelationLaws.{bound_implies}
use Rattle.edit_line.proofs.SetLaws.{both_true, is_inside-Decides}
use Rattle.linear_elim.proofs.BetweenLaws.{above_neg, by_sign}
use Rattle.back_subst.specs.Given.{IsGivenNumber, IsSame}
use Rattle.back_subst.specs.Intervals.{End, Interval, further_in, is_past_any, is_between, kept_past}
use Rattle.back_subst.specs.NumberWalk.{Found, FoundBounds, bound_at, bounded_by, bounds_from, found_at, inside_by, is_bounding, no_bounds}
use Rattle.back_subst.specs.NumberWalk.{number_result, rest_of, step_in, tighter, unless_out, with_bound, with_found, nearest_found}
use Rattle.back_subst.specs.inner.Bounds.{AreWithinBounds, BoundsField, IsWithinBound, RestsFit}
use Rattle.back_subst.specs.inner.Sides.{side_of}
use Rattle.back_subst.proofs.BoundLaws.{bound-depth, further, further-in, minus, multiple, once}

-- What the walk's number is.

led_on : {A B : Type 0} (o : Option A) (next : A → Option B) (b : B) → (o >>? next) ≡ Some b → (a : A) × (o ≡ Some a) × (next a ≡ Some b)
led_on None next b e = absurd (cc)
led_on (Some a) next b e = (a, refl, e)

-- ---- bounds as ends

-- the number of a bound has a positive denominator
abbrev pub IsProper : Option Found → Type 0
IsProper None = Unit {0}
IsProper (Some b) = pos 0 <ℤ b.at.denominator

abbrev pub AreProper : FoundBounds → Type 0
AreProper ends = IsProper ends.lower × IsProper ends.upper

abbrev pub end_from : (b : Found) → pos 0 <ℤ b.at.denominator → End
end_from b above = record { at = b.at; positive = above; strict = b.strict }

abbrev pub any_from : (o : Option Found) → IsProper o → Option End
any_from None h = None
any_from (Some b) h = Some (end_from b h)

-- whether a number is past a bound, if there is one
abbrev pub past_found : ℤ → Option Found → Ratio → Bool
past_found side None x = true
past_found side (Some b) x = is_enough (bound_relation b.strict) (inside_by side b x)

abbrev pub within_found : FoundBounds → Ratio → Bool
within_found ends x = past_found (pos 1) ends.lower x && past_found (negsuc 0) ends.upper x

past-any : (side : ℤ) (o : Option Found) (h : IsProper o) (x : Ratio) → is_past_any side (any_from o h) x ≡ past_found side o x
past-any side None h x = refl
past-any side (Some b) h x = refl

-- the numbers between the bounds
abbrev pub interval_of : (ends : FoundBounds) → AreProper ends → Interval
interval_of ends h = record { lower = any_from ends.lower h.0; upper = any_from ends.upper h.1 }

pub between-within : (ends : FoundBounds) (h : AreProper ends) (x : Ratio) → is_between (interval_of ends h) x ≡ within_found ends x
between-within ends h x =
    ap (λ b. b && is_past_any (negsuc 0) (any_from ends.upper h.1) x) (past-any (pos 1) ends.lower h.0 x)
    ∙ ap (λ b. past_found (pos 1) ends.lower x && b) (past-any (negsuc 0) ends.upper h.1 x)

-- ---- the tighter of two bounds

module _ (side : ℤ) (old new : Found) (old_above : pos 0 <ℤ old.at.denominator) (new_above : pos 0 <ℤ new.at.denominator) (x : Ratio)
    (above : pos 0 <ℤ x.denominator) where
  same-place : inside_by side old new.at ≡ pos 0 → inside_by side old x *ℤ new.at.denominator ≡ inside_by side new x *ℤ old.at.denominator
  same-place none =
      further-in side new.at.numerator new.at.denominator old.at.numerator old.at.denominator x.numerator x.denominator
      ∙ ap (λ (z : ℤ). inside_by side new x *ℤ old.at.denominator +ℤ z *ℤ x.denominator) none
      ∙ nothing (inside_by side new x *ℤ old.at.denominator) x.denominator
    where
      nothing : (z d : ℤ) → z +ℤ pos 0 *ℤ d ≡ z
      nothing z d = rw (parts z, parts d) (simp ring (same_dif _ _ _ _ (omega arith)))

  weaker : (first second : Found) → pos 0 <ℤ first.at.denominator → pos 0 <ℤ second.at.denominator
      → inside_by side second x *ℤ first.at.denominator ≡ inside_by side first x *ℤ second.at.denominator
      → (first.strict || not second.strict) ≡ true → is_enough (bound_relation first.strict) (inside_by side first x) ≡ true
      → is_enough (bound_relation second.strict) (inside_by side second x) ≡ true
  weaker first second first_above second_above same either past =
      (is_enough-Decides (bound_relation second.strict) _).1
      (IsEnough_cancel (bound_relation second.strict) (inside_by side second x) first.at.denominator first_above
      (subst (λ (z : ℤ). IsEnough (bound_relation second.strict) z) (sym same)
      (IsEnough-times (bound_relation second.strict) (inside_by side first x) second.at.denominator second_above
      (IsEnough-weaker (bound_relation first.strict) (bound_relation second.strict) (inside_by side first x)
      (bound_implies first.strict second.strict ∙ either) ((is_enough-Decides (bound_relation first.strict) _).0 past)))))

  joined-new : (is_enough (bound_relation new.strict) (inside_by side new x) ≡ true → is_enough (bound_relation old.strict) (inside_by side old x) ≡ true)
      → is_enough (bound_relation new.strict) (inside_by side new x)
      ≡ (is_enough (bound_relation old.strict) (inside_by side old x) && is_enough (bound_relation new.strict) (inside_by side new x))
  joined-new implies = by (is_enough (bound_relation new.strict) (inside_by side new x)) (is_enough (bound_relation old.strict) (inside_by side old x)) implies
    where
      by : (a b : Bool) → (a ≡ true → b ≡ true) → a ≡ (b && a)
      by true true h = refl
      by true false h = absurd (cc (h refl))
      by false true h = refl
      by false false h = refl

  joined-old : (is_enough (bound_relation old.strict) (inside_by side old x) ≡ true → is_enough (bound_relation new.strict) (inside_by side new x) ≡ true)
      → is_enough (bound_relation old.strict) (inside_by side old x)
      ≡ (is_enough (bound_relation old.strict) (inside_by side old x) && is_enough (bound_relation new.strict) (inside_by side new x))
  joined-old implies = by (is_enough (bound_relation old.strict) (inside_by side old x)) (is_enough (bound_relation new.strict) (inside_by side new x)) implies
    where
      by : (a b : Bool) → (a ≡ true → b ≡ true) → a ≡ (a && b)
      by true true h = refl
      by true false h = absurd (cc (h refl))
      by false b h = refl

  reversed : (s n_n n_d o_n o_d : ℤ) → s *ℤ (o_n *ℤ n_d -ℤ n_n *ℤ o_d) ≡ neg_ℤ (s *ℤ (n_n *ℤ o_d -ℤ o_n *ℤ n_d))
  reversed s n_n n_d o_n o_d = rw (parts s, parts n_n, parts n_d, parts o_n, parts o_d) (simp ring (same_dif _ _ _ _ (omega arith)))

  pub tighter-past : past_found side (Some (tighter side (Some old) new)) x
      ≡ (is_enough (bound_relation old.strict) (inside_by side old x) && is_enough (bound_relation new.strict) (inside_by side new x))
  tighter-past = by (int_lt (pos 0) (inside_by side old new.at)) refl (int_eq (inside_by side old new.at) (pos 0)) refl new.strict refl old.strict refl
    where
      rising : (z : ℤ) → int_lt (pos 0) z ≡ true → pos 0 <ℤ z
      rising z h = grind (arith, ints)

      falling : (z : ℤ) → int_lt (pos 0) z ≡ false → int_eq z (pos 0) ≡ false → pos 0 <ℤ neg_ℤ z
      falling z h apart = at (by_sign z)
        where
          told : (z : ℤ) → pos 0 <ℤ z → int_lt (pos 0) z ≡ true
          told z up = grind (arith, ints)

          at : (pos 0 <ℤ z) ⊎ ((z ≡ pos 0) ⊎ (z <ℤ pos 0)) → pos 0 <ℤ neg_ℤ z
          at (inl up) = absurd (cc (sym h ∙ told z up))
          at (inr (inl none)) = absurd (cc (sym apart ∙ (Decides-int_eq z (pos 0)).1 none))
          at (inr (inr down)) = above_neg z down

      new_first : pos 0 <ℤ inside_by side old new.at → is_enough (bound_relation new.strict) (inside_by side new x) ≡ true
          → is_enough (bound_relation old.strict) (inside_by side old x) ≡ true
      new_first gap past = further side (end_from new new_above) (end_from old old_above) x above gap past

      old_first : pos 0 <ℤ neg_ℤ (inside_by side old new.at) → is_enough (bound_relation old.strict) (inside_by side old x) ≡ true
          → is_enough (bound_relation new.strict) (inside_by side new x) ≡ true
      old_first gap past =
          further side (end_from old old_above) (end_from new new_above) x above
          (subst (λ (z : ℤ). pos 0 <ℤ z) (sym (reversed side new.at.numerator new.at.denominator old.at.numerator old.at.denominator)) gap) past

      equal_old : int_eq (inside_by side old new.at) (pos 0) ≡ true → (old.strict || not new.strict) ≡ true
          → is_enough (bound_relation old.strict) (inside_by side old x) ≡ true → is_enough (bound_relation new.strict) (inside_by side new x) ≡ true
      equal_old none either past = weaker old new old_above new_above (sym (same-place ((Decides-int_eq _ _).0 none))) either past

      by : (a : Bool) → int_lt (pos 0) (inside_by side old new.at) ≡ a → (b : Bool) → int_eq (inside_by side old new.at) (pos 0) ≡ b → (c : Bool)
          → new.strict ≡ c → (d : Bool) → old.strict ≡ d
          → past_found side (Some (if a || (b && (c && not d)) then new else old)) x
          ≡ (is_enough (bound_relation old.strict) (inside_by side old x) && is_enough (bound_relation new.strict) (inside_by side new x))
      by true e b f c g d h = joined-new (new_first (rising _ e))
      by false e true f true g false h =
          joined-new (weaker new old new_above old_above (same-place ((Decides-int_eq _ _).0 f)) (ap (λ s. s || not old.strict) g))
      by false e true f true g true h = joined-old (equal_old f (ap (λ s. s || not new.strict) h))
      by false e true f false g true h = joined-old (equal_old f (ap (λ s. s || not new.strict) h))
      by false e true f false g false h = joined-old (equal_old f (ap (λ s. s || not new.strict) h ∙ ap not g))
      by false e false f c g d h = joined-old (old_first (falling _ e f))

tighter-proper : (side : ℤ) (old : Option Found) (new : Found) → IsProper old → pos 0 <ℤ new.at.denominator → pos 0 <ℤ (tighter side old new).at.denominator
tighter-proper side None new h above = above
tighter-proper side (Some old) new h above =
    by (int_lt (pos 0) (inside_by side old new.at) || (int_eq (inside_by side old new.at) (pos 0) && (new.strict && not old.strict)))
  where
    by : (b : Bool) → pos 0 <ℤ (if b then new else old).at.denominator
    by true = above
    by false = h

any-tighter : (side : ℤ) (old : Option Found) (new : Found) → IsProper old → pos 0 <ℤ new.at.denominator → (x : Ratio) → pos 0 <ℤ x.denominator
    → past_found side (Some (tighter side old new)) x ≡ (past_found side old x && past_found side (Some new) x)
any-tighter side None new h new_above x above = refl
any-tighter side (Some old) new h new_above x above = tighter-past side old new h new_above x above

-- one bound more
with-proper : (ends : FoundBounds) (lower : Bool) (new : Found) → AreProper ends → pos 0 <ℤ new.at.denominator → AreProper (with_found ends lower new)
with-proper ends true new h above = (tighter-proper (pos 1) ends.lower new h.0 above, h.1)
with-proper ends false new h above = (h.0, tighter-proper (negsuc 0) ends.upper new h.1 above)

with-within : (ends : FoundBounds) (lower : Bool) (new : Found) → AreProper ends → pos 0 <ℤ new.at.denominator → (x : Ratio) → pos 0 <ℤ x.denominator
    → within_found (with_found ends lower new) x ≡ (within_found ends x && past_found (side_of lower) (Some new) x)
with-within ends true new h above x x_above =
    ap (λ b. b && past_found (negsuc 0) ends.upper x) (any-tighter (pos 1) ends.lower new h.0 above x x_above)
    ∙ turned (past_found (pos 1) ends.lower x) (past_found (pos 1) (Some new) x) (past_found (negsuc 0) ends.upper x)
  where
    turned : (a b c : Bool) → ((a && b) && c) ≡ ((a && c) && b)
    turned true true true = refl
    turned true true false = refl
    turned true false true = refl
    turned true false false = refl
    turned false b c = refl
with-within ends false new h above x x_above =
    ap (λ b. past_found (pos 1) ends.lower x && b) (any-tighter (negsuc 0) ends.upper new h.1 above x x_above)
    ∙ turned (past_found (pos 1) ends.lower x) (past_found (negsuc 0) ends.upper x) (past_found (negsuc 0) (Some new) x)
  where
    turned : (a b c : Bool) → (a && (b && c)) ≡ ((a && b) && c)
    turned true b c = refl
    turned false b c = refl

-- ---- the bounds of a line

-- how far a number is inside a bound, seen from its side
abbrev pub inside_at : Bool → Ratio → Ratio → ℤ
inside_at lower at x = side_of lower *ℤ (x.numerator *ℤ at.denominator -ℤ at.numerator *ℤ x.denominator)

-- a number that is outside neither of two equal bounds is where they are
closed-both : (lower : Bool) (gap : ℤ) → (is_enough AtLeast (pos 1 *ℤ gap) && is_enough AtLeast (negsuc 0 *ℤ gap)) ≡ is_enough Equal (side_of lower *ℤ gap)
closed-both lower gap = as_one (is_enough AtLeast (pos 1 *ℤ gap) && is_enough AtLeast (negsuc 0 *ℤ gap)) (is_enough Equal (side_of lower *ℤ gap)) there back
  where
    as_one : (a b : Bool) → (a ≡ true → b ≡ true) → (b ≡ true → a ≡ true) → a ≡ b
    as_one true b h g = sym (h refl)
    as_one false true h g = absurd (cc (g refl))
    as_one false false h g = refl

    none : (z : ℤ) → pos 0 ≤ℤ z → pos 0 ≤ℤ neg_ℤ z → z ≡ pos 0
    none z h g = omega (arith, ints)

    least : (z : ℤ) → z ≡ pos 0 → pos 0 ≤ℤ z
    least z h = omega (arith, ints)

    no_neg : (z : ℤ) → z ≡ pos 0 → neg_ℤ z ≡ pos 0
    no_neg z h = omega (arith, ints)

    neg_none : (z : ℤ) → neg_ℤ z ≡ pos 0 → z ≡ pos 0
    neg_none z h = omega (arith, ints)

    seen : (lower : Bool) → gap ≡ pos 0 → side_of lower *ℤ gap ≡ pos 0
    seen true h = once gap ∙ h
    seen false h = minus gap ∙ no_neg gap h

    unseen : (lower : Bool) → side_of lower *ℤ gap ≡ pos 0 → gap ≡ pos 0
    unseen true h = sym (once gap) ∙ h
    unseen false h = neg_none gap (sym (minus gap) ∙ h)

    both : (a b : Bool) → a ≡ true → b ≡ true → (a && b) ≡ true
    both true b e h = h
    both false b e h = absurd (cc)

    there : (is_enough AtLeast (pos 1 *ℤ gap) && is_enough AtLeast (negsuc 0 *ℤ gap)) ≡ true → is_enough Equal (side_of lower *ℤ gap) ≡ true
    there h =
        let (low, high) = both_true (is_enough AtLeast (pos 1 *ℤ gap)) (is_enough AtLeast (negsuc 0 *ℤ gap)) h in
        (is_enough-Decides Equal (side_of lower *ℤ gap)).1 (seen lower (none gap
        (subst (λ (z : ℤ). pos 0 ≤ℤ z) (once gap) ((is_enough-Decides AtLeast (pos 1 *ℤ gap)).0 low))
        (subst (λ (z : ℤ). pos 0 ≤ℤ z) (minus gap) ((is_enough-Decides AtLeast (negsuc 0 *ℤ gap)).0 high))))

    back : is_enough Equal (side_of lower *ℤ gap) ≡ true → (is_enough AtLeast (pos 1 *ℤ gap) && is_enough AtLeast (negsuc 0 *ℤ gap)) ≡ true
    back h =
        let at : gap ≡ pos 0 = unseen lower ((is_enough-Decides Equal (side_of lower *ℤ gap)).0 h) in
        both (is_enough AtLeast (pos 1 *ℤ gap)) (is_enough AtLeast (negsuc 0 *ℤ gap))
        ((is_enough-Decides AtLeast (pos 1 *ℤ gap)).1 (least _ (once gap ∙ at)))
        ((is_enough-Decides AtLeast (negsuc 0 *ℤ gap)).1 (least _ (minus gap ∙ no_neg gap at)))

pub bounds-proper : (relation : Relation) (ends : FoundBounds) (lower : Bool) (at : Ratio) (i : ℕ) → AreProper ends → pos 0 <ℤ at.denominator
    → AreProper (bounded_by relation ends lower at i)
bounds-proper AtLeast ends lower at i h above = with-proper ends lower (found_at at false i) h above
bounds-proper Above ends lower at i h above = with-proper ends lower (found_at at true i) h above
bounds-proper Equal ends lower at i h above =
    with-proper (with_found ends true (found_at at false i)) false (found_at at false i) (with-proper ends true (found_at at false i) h above) above

-- a number is within the bounds of a line and those before it where it is within those and enough for the line's relation
pub bounds-within : (relation : Relation) (ends : FoundBounds) (lower : Bool) (at : Ratio) (i : ℕ) → AreProper ends → pos 0 <ℤ at.denominator → (x : Ratio)
    → pos 0 <ℤ x.denominator
    → within_found (bounded_by relation ends lower at i) x ≡ (within_found ends x && is_enough relation (inside_at lower at x))
bounds-within AtLeast ends lower at i h above x x_above = with-within ends lower (found_at at false i) h above x x_above
bounds-within Above ends lower at i h above x x_above = with-within ends lower (found_at at true i) h above x x_above
bounds-within Equal ends lower at i h above x x_above =
    with-within (with_found ends true (found_at at false i)) false (found_at at false i) (with-proper ends true (found_at at false i) h above) above x x_above
    ∙ ap (λ b. b && is_enough AtLeast (inside_at false at x)) (with-within ends true (found_at at false i) h above x x_above)
    ∙ together (within_found ends x) (is_enough AtLeast (inside_at true at x)) (is_enough AtLeast (inside_at false at x))
    ∙ ap (λ b. within_found ends x && b) (closed-both lower (x.numerator *ℤ at.denominator -ℤ at.numerator *ℤ x.denominator))
  where
    together : (a b c : Bool) → ((a && b) && c) ≡ (a && (b && c))
    together true b c = refl
    together false b c = refl

field_led : (g : ℕ) (o : Option Ratio) (next : Ratio → Result Ratio ℕ) (s : Ratio) → (ok_or o g >>= next) ≡ Ok s
    → (sum : Ratio) × (o ≡ Some sum) × (next sum ≡ Ok s)
field_led g None next s e = absurd (cc)
field_led g (Some sum) next s e = (sum, refl, e)

-- a sum is over a positive denominator
next-above : (a : ℤ) (v : Value) (sum s : Ratio) → pos 0 <ℤ sum.denominator → next_sum a v sum ≡ Some s → pos 0 <ℤ s.denominator
next-above a v sum s above e = by (int_eq a (pos 0)) v e
  where
    by : (b : Bool) (v : Value) → (if b then Some sum else sum_with sum a v) ≡ Some s → pos 0 <ℤ s.denominator
    by true v h = let same : sum ≡ s = cc in subst (λ (r : Ratio). pos 0 <ℤ r.denominator) same above
    by false (Code c) h = let same : sum ≡ s = cc in subst (λ (r : Ratio). pos 0 <ℤ r.denominator) same above
    by false Bad h = let same : sum ≡ s = cc in subst (λ (r : Ratio). pos 0 <ℤ r.denominator) same above
    by false (Number x) h =
        let (y, first, second) = led_on (scaled (ratio_of x) a) (λ y. added sum y) s h in
        (added-value sum y s above (scaled-value (ratio_of x) a y x.positive first).1 second).1

sum-above : (fields : List ℕ) (factors : List ℤ) (row : List Value) (sum s : Ratio) → pos 0 <ℤ sum.denominator → sum_from fields factors row sum ≡ Ok s
    → pos 0 <ℤ s.denominator
sum-above [] factors row sum s above e = let same : sum ≡ s = cc in subst (λ (r : Ratio). pos 0 <ℤ r.denominator) same above
sum-above (g ∷ fields) [] row sum s above e = let same : sum ≡ s = cc in subst (λ (r : Ratio). pos 0 <ℤ r.denominator) same above
sum-above (g ∷ fields) (a ∷ factors) row sum s above e =
    let (next, first, second) = field_led g (next_sum a (value_of row g) sum) (λ next. sum_from fields factors row next) s e in
    sum-above fields factors row next s (next-above a (value_of row g) sum next above first) second

rest-above : (line : LineParts) (row : List Value) (f : ℕ) (r : Ratio) → rest_of line row f ≡ Ok r → pos 0 <ℤ r.denominator
rest-above line row f r e = sum-above (number_fields line.shape) line.factors (slice_set row f Bad) (whole line.constant) r (omega (arith, ints)) e

-- the bound that is found says what the line says
bound-found : (relation : Relation) (a : ℤ) (r at : Ratio) → a ≢ pos 0 → pos 0 <ℤ r.denominator → divided r (neg_ℤ a) ≡ Some at → (x : Ratio)
    → (pos 0 <ℤ at.denominator) × ((is_enough relation (inside_at (int_lt (pos 0) a) at x) ≡ true) ↔ IsEnough relation
    (a *ℤ x.numerator *ℤ r.denominator +ℤ r.numerator *ℤ x.denominator))
bound-found relation a r at some above e x = (quotient.1, by (int_lt (pos 0) a) refl)
  where
    no_neg : (z : ℤ) → neg_ℤ z ≡ pos 0 → z ≡ pos 0
    no_neg z h = omega (arith, ints)

    quotient : (r.numerator *ℤ at.denominator ≡ at.numerator *ℤ neg_ℤ a *ℤ r.denominator) × (pos 0 <ℤ at.denominator)
    quotient = divided-value r (neg_ℤ a) at above (λ none. some (no_neg a none)) e

    depths : (a *ℤ x.numerator *ℤ r.denominator +ℤ r.numerator *ℤ x.denominator) *ℤ at.denominator
        ≡ a *ℤ r.denominator *ℤ (x.numerator *ℤ at.denominator -ℤ at.numerator *ℤ x.denominator)
    depths = bound-depth a x.numerator x.denominator r.numerator r.denominator at.numerator at.denominator quotient.0

    at_lower : (a r d : ℤ) → a *ℤ r *ℤ d ≡ pos 1 *ℤ d *ℤ (a *ℤ r)
    at_lower a r d = rw (parts a, parts r, parts d) (simp ring (same_dif _ _ _ _ (omega arith)))

    at_upper : (a r d : ℤ) → a *ℤ r *ℤ d ≡ negsuc 0 *ℤ d *ℤ (neg_ℤ a *ℤ r)
    at_upper a r d = rw (parts a, parts r, parts d) (simp ring (same_dif _ _ _ _ (omega arith)))

    rising : (a : ℤ) → int_lt (pos 0) a ≡ true → pos 0 <ℤ a
    rising a h = grind (arith, ints)

    falling : (z : ℤ) → int_lt (pos 0) z ≡ false → z ≢ pos 0 → pos 0 <ℤ neg_ℤ z
    falling z h apart = turned (by_sign z)
      where
        told : (z : ℤ) → pos 0 <ℤ z → int_lt (pos 0) z ≡ true
        told z up = grind (arith, ints)

        turned : (pos 0 <ℤ z) ⊎ ((z ≡ pos 0) ⊎ (z <ℤ pos 0)) → pos 0 <ℤ neg_ℤ z
        turned (inl up) = absurd (cc (sym h ∙ told z up))
        turned (inr (inl none)) = absurd (apart none)
        turned (inr (inr down)) = above_neg z down

    by : (t : Bool) → int_lt (pos 0) a ≡ t → (is_enough relation (inside_at t at x) ≡ true) ↔ IsEnough relation
        (a *ℤ x.numerator *ℤ r.denominator +ℤ r.numerator *ℤ x.denominator)
    by true h =
        multiple relation _ _ at.denominator (a *ℤ r.denominator) (above-* a r.denominator (rising a h) above) quotient.1 (depths ∙ at_lower a r.denominator _)
    by false h =
        multiple relation _ _ at.denominator (neg_ℤ a *ℤ r.denominator) (above-* (neg_ℤ a) r.denominator (falling a h some) above) quotient.1
        (depths ∙ at_upper a r.denominator _)

-- ---- the bounds of all lines

was-ok : {A E : Type 0} (r : Result A E) (a : A) → result_ok r ≡ Some a → r ≡ Ok a
was-ok (Ok b) a e = ap Ok (cc)
was-ok (Err e) a h = absurd (cc)

was-place : {A : Type 0} (i : ℕ) (o : Option A) (next : A → Result FoundBounds ℕ) (s : FoundBounds) → (ok_or o i >>= next) ≡ Ok s
    → (a : A) × (o ≡ Some a) × (next a ≡ Ok s)
was-place i None next s e = absurd (cc)
was-place i (Some a) next s e = (a, refl, e)

module _ (row : List Value) (f : ℕ) where
  told-bounds : (line : LineParts) → is_bounding line row f ≡ true → BoundsField line row f
  told-bounds line e =
      let (inside, some) = both_true _ _ e in
      record {
        codes = (is_inside-Decides line.sets (codes_in line.shape row)).0 inside;
        stands = λ none. absurd
            (cc (sym some ∙ ap not ((Decides-int_eq (factor line f) (pos 0)).1 none)));
      }

  bounds-told : (line : LineParts) → BoundsField line row f → is_bounding line row f ≡ true
  bounds-told line is =
      both (are_codes_in line.sets (codes_in line.shape row)) _ ((is_inside-Decides line.sets (codes_in line.shape row)).1 is.codes)
      (by (int_eq (factor line f) (pos 0)) refl)
    where
      both : (a b : Bool) → a ≡ true → b ≡ true → (a && b) ≡ true
      both true b e h = h
      both false b e h = absurd (cc)

      by : (b : Bool) → int_eq (factor line f) (pos 0) ≡ b → not b ≡ true
      by false e = refl
      by true e = absurd (is.stands ((Decides-int_eq (factor line f) (pos 0)).0 e))

  record IsGathered (lines : List LineParts) (ends found : FoundBounds) : Type 0 where
    pub proper : AreProper found
    pub rests : RestsFit lines row f
    pub within : (x : Ratio) → pos 0 <ℤ x.denominator → (within_found found x ≡ true) ↔ ((within_found ends x ≡ true) × AreWithinBounds lines row f x)

  gathered : (i : ℕ) (lines : List LineParts) (ends found : FoundBounds) → AreProper ends → bounds_from i lines row f ends ≡ Ok found
      → IsGathered lines ends found
  gathered i [] ends found proper e =
      let same : ends ≡ found = cc in
      subst (λ (s : FoundBounds). IsGathered [] ends s) same
      (record { proper = proper; rests = λ l none. absurd none; within = λ x above. (λ h. (h, λ l r none. absurd none), λ h. h.0) })
  gathered i (line ∷ lines) ends found proper e = by (is_bounding line row f) refl e (λ ends' proper' made. gathered (suc i) lines ends' found proper' made)
    where
      by : (b : Bool) → is_bounding line row f ≡ b
          → (if b then (ok_or (bound_at line row f) i >>= (λ at. bounds_from (suc i) lines row f (with_bound ends line f at i))) else bounds_from (suc i)
          lines row f ends) ≡ Ok found
          → ((ends' : FoundBounds) → AreProper ends' → bounds_from (suc i) lines row f ends' ≡ Ok found → IsGathered lines ends' found)
          → IsGathered (line ∷ lines) ends found
      by false out made rest =
          let later = rest ends proper made in
          record {
            proper = later.proper;
            rests = λ l there bounds. at l there bounds (λ h. later.rests l h bounds);
            within = λ x above. (
              λ h. let (before, all) = (later.within x above).0 h in (before, λ l r there bounds is. none l there bounds (λ h. all l r h bounds is)),
              λ h. (later.within x above).1 (h.0, λ l r there bounds is. h.1 l r (inr there) bounds is),
            );
          }
        where
          none : {C : Type 0} (l : LineParts) → IsIn l (line ∷ lines) → BoundsField l row f → (IsIn l lines → C) → C
          none l (inl same) bounds next = absurd (cc (sym out ∙ ap (λ (k : LineParts). is_bounding k row f) (sym same) ∙ bounds-told l bounds))
          none l (inr h) bounds next = next h

          at : (l : LineParts) → IsIn l (line ∷ lines) → BoundsField l row f → (IsIn l lines → (r : Ratio) × (rest_of l row f ≡ Ok r))
              → (r : Ratio) × (rest_of l row f ≡ Ok r)
          at l there bounds next = none l there bounds next
      by true is made rest =
          let (bound, found_is, more) = was-place i (bound_at line row f) (λ at. bounds_from (suc i) lines row f (with_bound ends line f at i)) found made in
          let (r, rest_value, quotient) = led_on (result_ok (rest_of line row f)) (λ rest. divided rest (neg_ℤ (factor line f))) bound found_is in
          let rest_is : rest_of line row f ≡ Ok r = was-ok (rest_of line row f) r rest_value in
          let some : factor line f ≢ pos 0 = (told-bounds line is).stands in
          let says = bound-found line.relation (factor line f) r bound some (rest-above line row f r rest_is) quotient in
          let new_above : pos 0 <ℤ bound.denominator = (says (record { numerator = pos 0; denominator = pos 1 })).0 in
          let proper' = bounds-proper line.relation ends (int_lt (pos 0) (factor line f)) bound i proper new_above in
          let later = rest (with_bound ends line f bound i) proper' more in
          record {
            proper = later.proper;
            rests = λ l there bounds. at l r rest_is there (λ h. later.rests l h bounds);
            within = λ x above.
                let both = bounds-within line.relation ends (int_lt (pos 0) (factor line f)) bound i proper new_above x above in (
                  λ h.
                      let (early, all) = (later.within x above).0 h in
                      let (before, here) = both_true _ _ (sym both ∙ early) in
                      (before, λ l s there bounds s_is. one x l s there s_is r rest_is ((says x).1.0 here) (λ h. all l s h bounds s_is)),
                  λ h. (later.within x above).1 (
                    both ∙ joined _ _ h.0 ((says x).1.1 (h.1 line r (inl refl) (told-bounds line is) rest_is)),
                    λ l s there bounds s_is. h.1 l s (inr there) bounds s_is,
                  ),
                );
          }
        where
          joined : (a b : Bool) → a ≡ true → b ≡ true → (a && b) ≡ true
          joined true b e h = h
          joined false b e h = absurd (cc)

          at : (l : LineParts) (r : Ratio) → rest_of line row f ≡ Ok r → IsIn l (line ∷ lines) → (IsIn l lines → (r : Ratio) × (rest_of l row f ≡ Ok r))
              → (r : Ratio) × (rest_of l row f ≡ Ok r)
          at l r r_is (inl same) next = (r, ap (λ (k : LineParts). rest_of k row f) same ∙ r_is)
          at l r r_is (inr h) next = next h

          one : (x : Ratio) (l : LineParts) (s : Ratio) → IsIn l (line ∷ lines) → rest_of l row f ≡ Ok s → (r : Ratio) → rest_of line row f ≡ Ok r
              → IsEnough line.relation (factor line f *ℤ x.numerator *ℤ r.denominator +ℤ r.numerator *ℤ x.denominator)
              → (IsIn l lines → IsWithinBound l f s x) → IsWithinBound l f s x
          one x l s (inl same) s_is r r_is here next =
              let same_rest : r ≡ s = same_ok (rest_of line row f) r s r_is (ap (λ (k : LineParts). rest_of k row f) (sym same) ∙ s_is) in
              subst (λ (q : Ratio). IsWithinBound l f q x) same_rest (subst (λ (k : LineParts). IsWithinBound k f r x) (sym same) here)
            where
              same_ok : (o : Result Ratio ℕ) (a b : Ratio) → o ≡ Ok a → o ≡ Ok b → a ≡ b
              same_ok o a b first second = cc
          one x l s (inr h) s_is r r_is here next = next h

-- ---- the nearest number

module _ (side : ℤ) (target : Ratio) where
  step-same : (at : Ratio) (other : Option Found) (h : IsProper other) (r : Ratio) → pos 0 <ℤ at.denominator → step_in side at other ≡ Some r
      → IsSame r (further_in side at (any_from other h))
  step-same at None h r above e =
      let sum = added-value at (whole side) r above (omega (arith, ints)) e in
      opened r.numerator at.denominator ∙ sum.0 ∙ closed at.numerator at.denominator side r.denominator
    where
      opened : (n d : ℤ) → n *ℤ d ≡ n *ℤ (d *ℤ pos 1)
      opened n d = rw (parts n, parts d) (simp ring (same_dif _ _ _ _ (omega arith)))

      closed : (n d s e : ℤ) → (n *ℤ pos 1 +ℤ s *ℤ d) *ℤ e ≡ (n +ℤ s *ℤ d) *ℤ e
      closed n d s e = rw (parts n, parts d, parts s, parts e) (simp ring (same_dif _ _ _ _ (omega arith)))
  step-same at (Some o) h r above e =
      let half = middle-value at o.at r above h e in
      opened r.numerator at.denominator o.at.denominator ∙ half.0
    where
      opened : (n d e : ℤ) → n *ℤ (pos 2 *ℤ (d *ℤ e)) ≡ pos 2 *ℤ n *ℤ (d *ℤ e)
      opened n d e = rw (parts n, parts d, parts e) (simp ring (same_dif _ _ _ _ (omega arith)))

  placed_led : (i : ℕ) (o : Option Ratio) (r : Ratio) → (ok_or o i) ≡ Ok r → o ≡ Some r
  placed_led i None r e = absurd (cc)
  placed_led i (Some a) r e = ap Some (cc)

  out-same : (o other : Option Found) (h : IsProper o) (g : IsProper other) (r : Ratio) (next : Result Ratio ℕ) (near : Ratio)
      → unless_out side o other target next ≡ Ok r → (next ≡ Ok r → IsSame r near)
      → IsSame r (kept_past side (any_from o h) (any_from other g) target near)
  out-same None other h g r next near e later = later e
  out-same (Some b) other h g r next near e later = by (is_enough (bound_relation b.strict) (inside_by side b target)) b.strict e
    where
      by : (a s : Bool) → (if a then next else if s then (ok_or (step_in side b.at other) b.line) else Ok b.at) ≡ Ok r
          → IsSame r (if a then near else if s then further_in side b.at (any_from other g) else b.at)
      by true s h = later h
      by false true e = step-same b.at other g r h (placed_led b.line (step_in side b.at other) r e)
      by false false e = ap (λ (x : Ratio). x.numerator *ℤ b.at.denominator) same ∙ ap (λ (x : Ratio). b.at.numerator *ℤ x.denominator) (sym same)
        where
          same : r ≡ b.at
          same = cc

-- the walk's number is the nearest one within the bounds of the lines
pub walked-number : (lines : List LineParts) (row : List Value) (f : ℕ) (target r : Ratio) → number_result lines row f target ≡ Ok r
    → RestsFit lines row f × IsGivenNumber (AreWithinBounds lines row f) target r
walked-number lines row f target r e = by (bounds_from 0 lines row f no_bounds) refl e
  where
    by : (o : Result FoundBounds ℕ) → bounds_from 0 lines row f no_bounds ≡ o → (o >>= (λ ends. nearest_found ends target)) ≡ Ok r
        → RestsFit lines row f × IsGivenNumber (AreWithinBounds lines row f) target r
    by (Err place) is h = absurd (cc)
    by (Ok ends) is h =
        let all = gathered row f 0 lines no_bounds ends (tt, tt) is in (
          all.rests,
          record {
            interval = interval_of ends all.proper;
            exact = λ y above.
                let same = between-within ends all.proper y in
                (λ within. same ∙ (all.within y above).1 (refl, within), λ inside. ((all.within y above).0 (sym same ∙ inside)).1);
            is_nearest = out-same (pos 1) target ends.lower ends.upper all.proper.0 all.proper.1 r
                (unless_out (negsuc 0) ends.upper ends.lower target (Ok target)) _ h
                (λ more. out-same (negsuc 0) target ends.upper ends.lower all.proper.1 all.proper.0 r (Ok target) target more (λ last. own target r (cc)));
          },
        )
      where
        own : (t r : Ratio) → t ≡ r → IsSame r t
        own t r same = ap (λ (x : Ratio). x.numerator *ℤ t.denominator) (sym same) ∙ ap (λ (x : Ratio). t.numerator *ℤ x.denominator) same
