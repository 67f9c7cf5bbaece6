use Rattle.std.proofs.Common.{◌≡◌, ◌≢◌, Option, Some, None, if◌then◌else◌, ◌&&◌, not, Bool, true, false, ℕ, List, All, ◌⊎◌, inl, inr, length, map, ℤ}
use Rattle.std.proofs.Common.{pos, int_lt, ◌<ℤ◌, ◌+ℤ◌, ◌-ℤ◌, ◌*ℤ◌, refl, sym, ap, ◌∙◌, subst, arith}
use lib.IntN.{neg_ℤ}
use Rattle.std.specs.Bool.{Decides}
use Rattle.std.specs.List.{filter, find}
use Rattle.std.specs.Ordering.{int_eq}
use Rattle.std.proofs.lemmas.Bool.Decides.{Decides-int_eq}
use Rattle.std.proofs.lemmas.Int.{ints}
use Rattle.std.proofs.lemmas.List.{length-map}
use Rattle.fraction128.proofs.Whole.{comm, parts, ring, same_dif}
use Rattle.edit_model.specs.Points.{Point}
use Rattle.edit_line.specs.Lines.{AllHold, HasShape, HaveShape, IsEnough, LineHolds, LineParts, amount, bound_relation, factor, is_above, is_equal}
use Rattle.edit_line.specs.Reductions.{IsIn}
use Rattle.edit_line.specs.Sets.{AreCodesIn, are_codes_in}
use Rattle.edit_line.specs.Shapes.{Domain, IsNumerical, code_fields, codes_at}
use Rattle.edit_line.proofs.Enough.{IsEnough-times, IsEnough_cancel}
use Rattle.edit_line.proofs.Members.{all-in, in-all, in-either, in-filter, in-filter-out, in-flat_map, in-flat_map-out, in-left, in-map, in-map-out, in-right}
use Rattle.edit_line.proofs.ReductionLaws.{HaveShape-reduce, all-reduce, holds-reduce, reduce-holds}
use Rattle.edit_line.proofs.SetLaws.{both_true, is_inside-Decides}
use Rattle.edit_line.specs.Combinations.{all_meet, in_both, joined}
use Rattle.edit_line.specs.declared.relation.Relation.{Relation}
use Rattle.edit_line.specs.declared.relation.Relation.TheVariants.{Equal}
use Rattle.edit_line.proofs.RelationLaws.{bound_is, bounds_joined, is_equal-Decides}
use Rattle.edit_line.proofs.WholeSets.{whole-inside}
use Rattle.linear_elim.specs.Combinations.{combination, determines, first_multiplier, is_flat, is_lower, is_upper, second_multiplier, with_sign_of}
use Rattle.linear_elim.specs.PointChanges.{DiffersOnlyAt}
use Rattle.linear_elim.specs.Steps.{eliminated, is_opposite, made, made_by, step, without_first}
use Rattle.linear_elim.proofs.BetweenLaws.{IsWithin, LeavesValue, between, by_sign}
use Rattle.edit_line.proofs.CombinationLaws.{LineHolds-combined, amount-combined, inside-all_meet, inside-meets}
use Rattle.linear_elim.proofs.FoundLines.{found-in, found-or_other, none-found, others-there}
use Rattle.linear_elim.proofs.PairLaws.{HasShape-combination, IsAllowedPair, combination-flat, combination-is, combination_divisor, equality-allowed}
use Rattle.linear_elim.proofs.PairLaws.{multipliers-cancel, opposite-allowed, second-above, turned-itself}
use Rattle.linear_elim.proofs.PointLaws.{LineHolds-others, holds-put, put, put-code, put-differs, rest_at}

-- One step of elimination: its lines hold at a point exactly where some value at the field makes the lines hold.

-- ---- the lines of a step

-- the tests of a factor's sign
pub above_tells : (a : ℤ) → int_lt (pos 0) a ≡ true → pos 0 <ℤ a
above_tells a h = grind (arith, ints)

pub below_tells : (a : ℤ) → int_lt a (pos 0) ≡ true → a <ℤ pos 0
below_tells a h = grind (arith, ints)

above_told : (a : ℤ) → pos 0 <ℤ a → int_lt (pos 0) a ≡ true
above_told a h = grind (arith, ints)

below_told : (a : ℤ) → a <ℤ pos 0 → int_lt a (pos 0) ≡ true
below_told a h = grind (arith, ints)

clash : (b : Bool) → b ≡ true → not b ≡ true → ⊥
clash true e h = cc
clash false e h = cc

none_tells : (a : ℤ) → (not (int_lt (pos 0) a) && not (int_lt a (pos 0))) ≡ true → a ≡ pos 0
none_tells a h = elim (by_sign a) [
  | inl above ↦ absurd (clash (int_lt (pos 0) a) (above_told a above) (both_true _ _ h).0)
  | inr other ↦ elim other [ inl none ↦ none | inr below ↦ absurd (clash (int_lt a (pos 0)) (below_told a below) (both_true _ _ h).1) ]
]

above_apart : (a : ℤ) → pos 0 <ℤ a → a ≢ pos 0
above_apart a h none = omega (arith, ints, h, none)

below_apart : (a : ℤ) → a <ℤ pos 0 → a ≢ pos 0
below_apart a h none = omega (arith, ints, h, none)

none_told : (a : ℤ) → a ≡ pos 0 → (not (int_lt (pos 0) a) && not (int_lt a (pos 0))) ≡ true
none_told a e = rw e refl

-- a field that stands in a line has a factor other than 0
pub stands_tells : (a : ℤ) → not (not (int_lt (pos 0) a) && not (int_lt a (pos 0))) ≡ true → a ≢ pos 0
stands_tells a h none = absurd (clash (not (int_lt (pos 0) a) && not (int_lt a (pos 0))) (none_told a none) h)

stands_told : (a : ℤ) → a ≢ pos 0 → not (not (int_lt (pos 0) a) && not (int_lt a (pos 0))) ≡ true
stands_told a apart = by (not (int_lt (pos 0) a) && not (int_lt a (pos 0))) refl
  where
    by : (b : Bool) → (not (int_lt (pos 0) a) && not (int_lt a (pos 0))) ≡ b → not b ≡ true
    by true e = absurd (apart (none_tells a e))
    by false e = refl

-- two opposite lines
pub record IsOppositePair (lines : List LineParts) (f : ℕ) (s t : LineParts) : Type 0 where
  pub first : IsIn s lines
  pub second : IsIn t lines
  pub above : pos 0 <ℤ factor s f
  pub below : factor t f <ℤ pos 0
  pub meet : all_meet s.sets t.sets ≡ true

-- two of the lines whose combination the step makes
pub record IsMadePair (lines : List LineParts) (f : ℕ) (s t : LineParts) : Type 0 where
  pub first : IsIn s lines
  pub second : IsIn t lines
  pub allowed : IsAllowedPair f s t

-- a line is the combination of such a pair
abbrev pub IsMade : List LineParts → ℕ → LineParts → Type 0
IsMade lines f line = (s : LineParts) × (t : LineParts) × IsMadePair lines f s t × (line ≡ combination s t f)

module _ (lines : List LineParts) (f : ℕ) where
  -- a line without the field is one of the step's
  pub flat-eliminated : (line : LineParts) → IsIn line lines → factor line f ≡ pos 0 → IsIn line (eliminated lines f)
  flat-eliminated line there none =
      in-left line (filter (is_flat f) lines) (made lines f) (in-filter (is_flat f) line lines (none_told (factor line f) none) there)

  -- where no equality has the field, so is the combination of each opposite pair
  pub pair-eliminated : find (determines f) lines ≡ None → (s t : LineParts) → IsOppositePair lines f s t → IsIn (combination s t f) (eliminated lines f)
  pair-eliminated none s t pair =
      in-right (combination s t f) (filter (is_flat f) lines) (made lines f)
      (subst (λ (o : Option LineParts). IsIn (combination s t f) (made_by o lines f)) (sym none)
      (in-flat_map (λ s. map (λ t. combination s t f) (filter (is_opposite f s) lines)) s (combination s t f) (filter (is_lower f) lines)
      (in-filter (is_lower f) s lines (above_told (factor s f) pair.above) pair.first)
      (in-map (λ t. combination s t f) t (filter (is_opposite f s) lines)
      (in-filter (is_opposite f s) t lines (both (is_upper f t) _ (below_told (factor t f) pair.below) pair.meet) pair.second))))
    where
      both : (a b : Bool) → a ≡ true → b ≡ true → (a && b) ≡ true
      both a b e h = rw (e, h) refl

  -- and else the substitution of the first into each other line that has it
  pub substituted-eliminated : (e t : LineParts) → find (determines f) lines ≡ Some e → IsIn t (without_first (determines f) lines) → factor t f ≢ pos 0
      → IsIn (combination e t f) (eliminated lines f)
  substituted-eliminated e t found there apart =
      in-right (combination e t f) (filter (is_flat f) lines) (made lines f)
      (subst (λ (o : Option LineParts). IsIn (combination e t f) (made_by o lines f)) (sym found)
      (in-map (λ t. combination e t f) t (filter (λ t. not (is_flat f t)) (without_first (determines f) lines))
      (in-filter (λ t. not (is_flat f t)) t (without_first (determines f) lines) (stands_told (factor t f) apart) there)))

  -- the first equality with the field
  pub determined : (e : LineParts) → find (determines f) lines ≡ Some e → IsIn e lines × (e.relation ≡ Equal) × (factor e f ≢ pos 0)
  determined e found =
      let (there, test) = found-in (determines f) e lines found in
      let (equal, stands) = both_true _ _ test in
      (there, (is_equal-Decides e.relation).0 equal, stands_tells (factor e f) stands)

  -- where there is none, no line with the field is an equality
  pub undetermined : (line : LineParts) → find (determines f) lines ≡ None → IsIn line lines → factor line f ≢ pos 0 → is_equal line.relation ≡ false
  undetermined line none there apart =
      by (is_equal line.relation) (not (is_flat f line)) (stands_told (factor line f) apart) (none-found (determines f) line lines none there)
    where
      by : (a b : Bool) → b ≡ true → (a && b) ≡ false → a ≡ false
      by true b e h = absurd (cc)
      by false b e h = refl

  -- ---- what the lines of a step are

  module _ (shape : List Domain) (over : HaveShape shape lines) where
    has : (line : LineParts) → IsIn line lines → HasShape shape line
    has line there = in-all (λ l. HasShape shape l) line lines over there

    same_shape : (s t : LineParts) → IsIn s lines → IsIn t lines → t.shape ≡ s.shape
    same_shape s t first second = (has t second).same ∙ sym (has s first).same

    -- each line that is made is the combination of a pair
    made-from : (line : LineParts) → IsIn line (made lines f) → IsMade lines f line
    made-from line there = by (find (determines f) lines) refl there
      where
        by : (o : Option LineParts) → find (determines f) lines ≡ o → IsIn line (made_by o lines f) → IsMade lines f line
        by (Some e) found there =
            let (t, t_there, same) = in-map-out (λ t. combination e t f) line (filter (λ t. not (is_flat f t)) (without_first (determines f) lines)) there in
            let (t_other, stands) = in-filter-out (λ t. not (is_flat f t)) t (without_first (determines f) lines) t_there in
            let (e_in, equal, apart) = determined e found in
            let t_in = others-there (determines f) t lines t_other in (
              e,
              t,
              record {
                first = e_in;
                second = t_in;
                allowed = equality-allowed shape f e t (has e e_in) (has t t_in) equal apart
                    (stands_tells (factor t f) stands);
              },
              same,
            )
        by None none there =
            let (s, s_there, from) = in-flat_map-out (λ s. map (λ t. combination s t f) (filter (is_opposite f s) lines)) line (filter (is_lower f) lines)
            there in
            let (t, t_there, same) = in-map-out (λ t. combination s t f) line (filter (is_opposite f s) lines) from in
            let (s_in, lower) = in-filter-out (is_lower f) s lines s_there in
            let (t_in, opposite) = in-filter-out (is_opposite f s) t lines t_there in
            let (upper, meet) = both_true _ _ opposite in (
              s,
              t,
              record {
                first = s_in;
                second = t_in;
                allowed = opposite-allowed f s t (above_tells (factor s f) lower) (below_tells (factor t f) upper)
                    meet;
              },
              same,
            )

    -- a line of the step is a line without the field, or the combination of a pair
    pub from-eliminated : (line : LineParts) → IsIn line (eliminated lines f) → (IsIn line lines × (factor line f ≡ pos 0)) ⊎ IsMade lines f line
    from-eliminated line there = elim (in-either line (filter (is_flat f) lines) (made lines f) there) [
      | inl flat ↦ (let (was, none) = in-filter-out (is_flat f) line lines flat in inl (was, none_tells (factor line f) none))
      | inr new ↦ inr (made-from line new)
    ]

    pub HaveShape-eliminated : HaveShape shape (eliminated lines f)
    HaveShape-eliminated = all-in (λ l. HasShape shape l) (eliminated lines f) (λ line there. elim (from-eliminated line there) [
      | inl flat ↦ has line flat.0
      | inr combined ↦ (
          let (s, t, pair, same) = combined in
          subst (λ (l : LineParts). HasShape shape l) (sym same) (HasShape-combination shape s t f (has s pair.first) (has t pair.second) pair.allowed.meet)
          )
    ])

    pub flat-all : All (λ line. factor line f ≡ pos 0) (eliminated lines f)
    flat-all = all-in (λ line. factor line f ≡ pos 0) (eliminated lines f) (λ line there. elim (from-eliminated line there) [
      | inl flat ↦ flat.1
      | inr combined ↦ (let (s, t, pair, same) = combined in ap (λ (l : LineParts). factor l f) same
          ∙ combination-flat s t f (same_shape s t pair.first pair.second))
    ])

    -- ---- from the lines to the step

    combination-holds : (s t : LineParts) (q : Point) → IsMadePair lines f s t → LineHolds s q → LineHolds t q → LineHolds (combination s t f) q
    combination-holds s t q pair s_holds t_holds =
        let is = combination-is s t f (same_shape s t pair.first pair.second) pair.allowed in
        LineHolds-combined (first_multiplier s t f) (second_multiplier s t f) (combination_divisor s t f) s t (combination s t f) q is.m_keeps is.n_keeps
        is.g_above is.combined s_holds t_holds

    pub eliminated-holds : (p q : Point) → IsNumerical shape f → DiffersOnlyAt f p q → AllHold lines q → AllHold (eliminated lines f) p
    eliminated-holds p q number differs holds =
        all-in (λ line. LineHolds line p) (eliminated lines f) (λ line there. at line there (from-eliminated line there))
      where
        here : (line : LineParts) → IsIn line lines → LineHolds line q
        here line there = in-all (λ l. LineHolds l q) line lines holds there

        on : (line : LineParts) → line.shape ≡ shape → factor line f ≡ pos 0 → LineHolds line q → LineHolds line p
        on line same none at_q = LineHolds-others line p q f (subst (λ (s : List Domain). IsNumerical s f) (sym same) number) differs none at_q

        at : (line : LineParts) → IsIn line (eliminated lines f) → (IsIn line lines × (factor line f ≡ pos 0)) ⊎ IsMade lines f line → LineHolds line p
        at line there (inl flat) = on line (has line flat.0).same flat.1 (here line flat.0)
        at line there (inr combined) =
            let (s, t, pair, same) = combined in
            on line (in-all (λ l. HasShape shape l) line (eliminated lines f) HaveShape-eliminated there).same
            (in-all (λ l. factor l f ≡ pos 0) line (eliminated lines f) flat-all there)
            (subst (λ (l : LineParts). LineHolds l q) (sym same) (combination-holds s t q pair (here s pair.first) (here t pair.second)))

    -- where the lines hold, the step's do
    pub eliminated-follows : (p : Point) → AllHold lines p → AllHold (eliminated lines f) p
    eliminated-follows p holds = all-in (λ line. LineHolds line p) (eliminated lines f) (λ line there. at line (from-eliminated line there))
      where
        here : (line : LineParts) → IsIn line lines → LineHolds line p
        here line there = in-all (λ l. LineHolds l p) line lines holds there

        at : (line : LineParts) → (IsIn line lines × (factor line f ≡ pos 0)) ⊎ IsMade lines f line → LineHolds line p
        at line (inl flat) = here line flat.0
        at line (inr combined) =
            let (s, t, pair, same) = combined in
            subst (λ (l : LineParts). LineHolds l p) (sym same) (combination-holds s t p pair (here s pair.first) (here t pair.second))

    -- ---- from the step to the lines

    -- the lower and the upper lines whose sets have the point's codes
    abbrev lower_bounds : Point → List LineParts
    lower_bounds p = filter (λ l. is_lower f l && are_codes_in l.sets (codes_at l.shape p)) lines

    abbrev upper_bounds : Point → List LineParts
    upper_bounds p = filter (λ l. is_upper f l && are_codes_in l.sets (codes_at l.shape p)) lines

    -- what a combination that is enough says of its two lines
    crossed : (m n a b x y z : ℤ) → m *ℤ a +ℤ n *ℤ b ≡ pos 0 → (m *ℤ y +ℤ n *ℤ z) *ℤ a ≡ (a *ℤ (z -ℤ b *ℤ x) -ℤ b *ℤ (y -ℤ a *ℤ x)) *ℤ n
    crossed m n a b x y z e = opened m n a b x y z ∙ ap (λ (k : ℤ). (a *ℤ (z -ℤ b *ℤ x) -ℤ b *ℤ (y -ℤ a *ℤ x)) *ℤ n +ℤ k *ℤ y) e ∙ closed _ y
      where
        opened : (m n a b x y z : ℤ) → (m *ℤ y +ℤ n *ℤ z) *ℤ a ≡ (a *ℤ (z -ℤ b *ℤ x) -ℤ b *ℤ (y -ℤ a *ℤ x)) *ℤ n +ℤ (m *ℤ a +ℤ n *ℤ b) *ℤ y
        opened m n a b x y z = rw (parts m, parts n, parts a, parts b, parts x, parts y, parts z) (simp ring (same_dif _ _ _ _ (omega arith)))

        closed : (u y : ℤ) → u +ℤ pos 0 *ℤ y ≡ u
        closed u y = rw (parts u, parts y) (simp ring (same_dif _ _ _ _ (omega arith)))

    leaves_from : (m n g a b x y z w : ℤ) (relation : Relation) → pos 0 <ℤ n → pos 0 <ℤ g → pos 0 <ℤ a → g *ℤ w ≡ m *ℤ y +ℤ n *ℤ z → m *ℤ a +ℤ n *ℤ b ≡ pos 0
        → IsEnough relation w → IsEnough relation (a *ℤ (z -ℤ b *ℤ x) -ℤ b *ℤ (y -ℤ a *ℤ x))
    leaves_from m n g a b x y z w relation n_above g_above a_above sum none enough =
        IsEnough_cancel relation _ n n_above (subst (λ (k : ℤ). IsEnough relation k) (ap (λ (k : ℤ). k *ℤ a) (comm w g ∙ sum) ∙ crossed m n a b x y z none)
        (IsEnough-times relation (w *ℤ g) a a_above (IsEnough-times relation w g g_above enough)))

    pair_leaves : (p : Point) (s t : LineParts) → IsOppositePair lines f s t → is_equal s.relation ≡ false → is_equal t.relation ≡ false
        → AreCodesIn s.sets (codes_at s.shape p) → AreCodesIn t.sets (codes_at t.shape p) → LineHolds (combination s t f) p
        → LeavesValue (λ l. factor l f) (λ l. rest_at l f p) (λ (l : LineParts). is_above l.relation) s t
    pair_leaves p s t pair s_apart t_apart s_inside t_inside holds =
        let same = same_shape s t pair.first pair.second in
        let is = combination-is s t f same (opposite-allowed f s t pair.above pair.below pair.meet) in
        let inside : AreCodesIn (in_both s.sets t.sets) (codes_at s.shape p) = inside-meets s.sets t.sets (codes_at s.shape p) s_inside
        (subst (λ (d : List Domain). AreCodesIn t.sets (codes_at d p)) same t_inside) in
        let in_line : AreCodesIn (combination s t f).sets (codes_at (combination s t f).shape p) =
        subst (λ (d : List Domain). AreCodesIn (combination s t f).sets (codes_at d p)) (sym is.combined.shape)
        (subst (λ (sets : List ℕ). AreCodesIn sets (codes_at s.shape p)) (sym is.combined.sets) inside) in
        subst (λ (r : Relation). IsEnough r (factor s f *ℤ rest_at t f p -ℤ factor t f *ℤ rest_at s f p)) (bounds_joined s.relation t.relation s_apart t_apart)
        (leaves_from (first_multiplier s t f) (second_multiplier s t f) (combination_divisor s t f) (factor s f) (factor t f) (p.numerator f) (amount s p)
        (amount t p) (amount (combination s t f) p) (joined s.relation t.relation)
        (second-above s t f (above_apart (factor s f) pair.above)) is.g_above pair.above
        (amount-combined (first_multiplier s t f) (second_multiplier s t f) (combination_divisor s t f) s t (combination s t f) p is.combined)
        (multipliers-cancel s t f)
        (subst (λ (r : Relation). IsEnough r (amount (combination s t f) p)) is.combined.relation (holds.enough in_line)))

    -- ---- an equality with the field forces its value

    no_part : (a v r x d : ℤ) → a ≡ pos 0 → r *ℤ d ≡ a *ℤ v +ℤ (r -ℤ a *ℤ x) *ℤ d
    no_part a v r x d e = rw (e, parts v, parts r, parts x, parts d) (simp ring (same_dif _ _ _ _ (omega arith)))

    forced_value : (a r : ℤ) → a *ℤ with_sign_of a (neg_ℤ r) +ℤ r *ℤ with_sign_of a a ≡ pos 0
    forced_value a r = by (int_lt a (pos 0))
      where
        by : (b : Bool) → a *ℤ (if b then neg_ℤ (neg_ℤ r) else neg_ℤ r) +ℤ r *ℤ (if b then neg_ℤ a else a) ≡ pos 0
        by true = rw (parts a, parts r) (simp ring (same_dif _ _ _ _ (omega arith)))
        by false = rw (parts a, parts r) (simp ring (same_dif _ _ _ _ (omega arith)))

    -- what the combination of the equality and a line says of the line at that value
    forced_enough : (m n g a b x y z w v d : ℤ) (relation : Relation) → pos 0 <ℤ n → pos 0 <ℤ g → pos 0 <ℤ d → g *ℤ w ≡ m *ℤ y +ℤ n *ℤ z
        → m *ℤ a +ℤ n *ℤ b ≡ pos 0
        → a *ℤ v +ℤ (y -ℤ a *ℤ x) *ℤ d ≡ pos 0 → IsEnough relation w → IsEnough relation (b *ℤ v +ℤ (z -ℤ b *ℤ x) *ℤ d)
    forced_enough m n g a b x y z w v d relation n_above g_above d_above sum none zero enough =
        IsEnough_cancel relation _ n n_above (subst (λ (k : ℤ). IsEnough relation k) (ap (λ (k : ℤ). k *ℤ d) (comm w g ∙ sum) ∙ sym moved)
        (IsEnough-times relation (w *ℤ g) d d_above (IsEnough-times relation w g g_above enough)))
      where
        opened : (m n a b x y z v d : ℤ) → (b *ℤ v +ℤ (z -ℤ b *ℤ x) *ℤ d) *ℤ n
            ≡ (m *ℤ y +ℤ n *ℤ z) *ℤ d -ℤ (a *ℤ v +ℤ (y -ℤ a *ℤ x) *ℤ d) *ℤ m +ℤ (m *ℤ a +ℤ n *ℤ b) *ℤ (v -ℤ x *ℤ d)
        opened m n a b x y z v d = rw (parts m, parts n, parts a, parts b, parts x, parts y, parts z, parts v, parts d)
            (simp ring (same_dif _ _ _ _ (omega arith)))

        closed : (u m k : ℤ) → u -ℤ pos 0 *ℤ m +ℤ pos 0 *ℤ k ≡ u
        closed u m k = rw (parts u, parts m, parts k) (simp ring (same_dif _ _ _ _ (omega arith)))

        moved : (b *ℤ v +ℤ (z -ℤ b *ℤ x) *ℤ d) *ℤ n ≡ (m *ℤ y +ℤ n *ℤ z) *ℤ d
        moved =
            opened m n a b x y z v d
            ∙ ap (λ (k : ℤ). (m *ℤ y +ℤ n *ℤ z) *ℤ d -ℤ k *ℤ m +ℤ (m *ℤ a +ℤ n *ℤ b) *ℤ (v -ℤ x *ℤ d)) zero
            ∙ ap (λ (k : ℤ). (m *ℤ y +ℤ n *ℤ z) *ℤ d -ℤ pos 0 *ℤ m +ℤ k *ℤ (v -ℤ x *ℤ d)) none
            ∙ closed ((m *ℤ y +ℤ n *ℤ z) *ℤ d) m (v -ℤ x *ℤ d)

    module _ (p : Point) (e : LineParts) (found : find (determines f) lines ≡ Some e) (holds : AllHold (eliminated lines f) p) where
      -- the value v / d that the equality forces
      abbrev v : ℤ
      v = with_sign_of (factor e f) (neg_ℤ (rest_at e f p))

      abbrev d : ℤ
      d = with_sign_of (factor e f) (factor e f)

      d_above : pos 0 <ℤ d
      d_above = turned-itself (factor e f) (determined e found).2

      -- with it each line holds
      forced-holds : (line : LineParts) → IsIn line lines → LineHolds line (put p f (p.code f) v d d_above)
      forced-holds line there = holds-put line p f v d d_above (λ inside. by inside (int_eq (factor line f) (pos 0)) (Decides-int_eq (factor line f) (pos 0)))
        where
          here : (l : LineParts) → IsIn l (eliminated lines f) → LineHolds l p
          here l l_there = in-all (λ l. LineHolds l p) l (eliminated lines f) holds l_there

          substituted : AreCodesIn line.sets (codes_at line.shape p) → factor line f ≢ pos 0 → IsIn line (without_first (determines f) lines)
              → IsEnough line.relation (factor line f *ℤ v +ℤ rest_at line f p *ℤ d)
          substituted inside apart other =
              let (e_in, equal, e_apart) = determined e found in
              let same = same_shape e line e_in there in
              let is = combination-is e line f same (equality-allowed shape f e line (has e e_in) (has line there) equal e_apart apart) in
              let at_e : AreCodesIn line.sets (codes_at e.shape p) = subst (λ (sh : List Domain). AreCodesIn line.sets (codes_at sh p)) same inside in
              let in_e : AreCodesIn e.sets (codes_at e.shape p) = subst (λ (ss : List ℕ). AreCodesIn ss (codes_at e.shape p))
              (sym ((has e e_in).whole equal)) (whole-inside shape line.sets (codes_at e.shape p) (has line there).fit at_e) in
              let in_line : AreCodesIn (combination e line f).sets (codes_at (combination e line f).shape p) =
              subst (λ (sh : List Domain). AreCodesIn (combination e line f).sets (codes_at sh p)) (sym is.combined.shape)
              (subst (λ (ss : List ℕ). AreCodesIn ss (codes_at e.shape p)) (sym is.combined.sets)
              (inside-meets e.sets line.sets (codes_at e.shape p) in_e at_e)) in
              let relation : (combination e line f).relation ≡ line.relation = is.combined.relation ∙ ap (λ (r : Relation). joined r line.relation) equal in
              forced_enough (first_multiplier e line f) (second_multiplier e line f) (combination_divisor e line f) (factor e f) (factor line f)
              (p.numerator f) (amount e p) (amount line p) (amount (combination e line f) p) v d line.relation
              (second-above e line f e_apart) is.g_above d_above
              (amount-combined (first_multiplier e line f) (second_multiplier e line f) (combination_divisor e line f) e line (combination e line f) p
              is.combined)
              (multipliers-cancel e line f) (forced_value (factor e f) (rest_at e f p))
              (subst (λ (r : Relation). IsEnough r (amount (combination e line f) p)) relation
              ((here (combination e line f) (substituted-eliminated e line found other apart)).enough in_line))

          forced : line ≡ e → IsEnough line.relation (factor line f *ℤ v +ℤ rest_at line f p *ℤ d)
          forced is =
              subst (λ (l : LineParts). IsEnough l.relation (factor l f *ℤ v +ℤ rest_at l f p *ℤ d)) (sym is)
              (subst (λ (r : Relation). IsEnough r (factor e f *ℤ v +ℤ rest_at e f p *ℤ d)) (sym (determined e found).1)
              (forced_value (factor e f) (rest_at e f p)))

          by : AreCodesIn line.sets (codes_at line.shape p) → (b : Bool) → Decides b (factor line f ≡ pos 0)
              → IsEnough line.relation (factor line f *ℤ v +ℤ rest_at line f p *ℤ d)
          by inside true is =
              subst (λ (k : ℤ). IsEnough line.relation k) (no_part (factor line f) v (amount line p) (p.numerator f) d (is.0 refl))
              (IsEnough-times line.relation (amount line p) d d_above ((here line (flat-eliminated line there (is.0 refl))).enough inside))
          by inside false is = elim (found-or_other (determines f) e line lines found there) [
            | inl same ↦ forced same
            | inr other ↦ substituted inside (λ none. absurd (cc (is.1 none))) other
          ]

      forced-lifts : (q : Point) × DiffersOnlyAt f p q × ((i : ℕ) → q.code i ≡ p.code i) × AllHold lines q
      forced-lifts = (
        put p f (p.code f) v d d_above,
        put-differs p f (p.code f) v d d_above,
        put-code p f v d d_above,
        all-in
            (λ l. LineHolds l (put p f (p.code f) v d d_above)) lines forced-holds,
      )

    -- ---- without such an equality, the bounds leave a value

    bounded-lifts : (p : Point) → find (determines f) lines ≡ None → AllHold (eliminated lines f) p
        → (q : Point) × DiffersOnlyAt f p q × ((i : ℕ) → q.code i ≡ p.code i) × AllHold lines q
    bounded-lifts p undecided holds =
        let (v, d, low, high) = between (λ l. factor l f) (λ l. rest_at l f p) (λ (l : LineParts). is_above l.relation) (lower_bounds p) (upper_bounds p)
        rising falling leaves in (
          put p f (p.code f) v d low.above,
          put-differs p f (p.code f) v d low.above,
          put-code p f v d low.above,
          all-in
              (λ l. LineHolds l (put p f (p.code f) v d low.above)) lines (λ line there. with_value line v d low high there),
        )
      where
        here : (line : LineParts) → IsIn line (eliminated lines f) → LineHolds line p
        here line there = in-all (λ l. LineHolds l p) line (eliminated lines f) holds there

        lower_tells : (s : LineParts) → IsIn s (lower_bounds p) → IsIn s lines × (pos 0 <ℤ factor s f) × AreCodesIn s.sets (codes_at s.shape p)
        lower_tells s there =
            let (was, test) = in-filter-out (λ l. is_lower f l && are_codes_in l.sets (codes_at l.shape p)) s lines there in
            let (lower, inside) = both_true _ _ test in
            (was, above_tells (factor s f) lower, (is_inside-Decides s.sets (codes_at s.shape p)).0 inside)

        upper_tells : (t : LineParts) → IsIn t (upper_bounds p) → IsIn t lines × (factor t f <ℤ pos 0) × AreCodesIn t.sets (codes_at t.shape p)
        upper_tells t there =
            let (was, test) = in-filter-out (λ l. is_upper f l && are_codes_in l.sets (codes_at l.shape p)) t lines there in
            let (upper, inside) = both_true _ _ test in
            (was, below_tells (factor t f) upper, (is_inside-Decides t.sets (codes_at t.shape p)).0 inside)

        rising : (s : LineParts) → IsIn s (lower_bounds p) → pos 0 <ℤ factor s f
        rising s there = (lower_tells s there).1

        falling : (t : LineParts) → IsIn t (upper_bounds p) → factor t f <ℤ pos 0
        falling t there = (upper_tells t there).1

        leaves : (s t : LineParts) → IsIn s (lower_bounds p) → IsIn t (upper_bounds p)
            → LeavesValue (λ l. factor l f) (λ l. rest_at l f p) (λ (l : LineParts). is_above l.relation) s t
        leaves s t s_there t_there =
            let (s_in, above, s_inside) = lower_tells s s_there in
            let (t_in, below, t_inside) = upper_tells t t_there in
            let same : t.shape ≡ s.shape = same_shape s t s_in t_in in
            let sets : length s.sets ≡ length (codes_at s.shape p) =
            (has s s_in).sets ∙ sym (length-map (code_fields shape) p.code) ∙ ap (λ (d : List Domain). length (codes_at d p)) (sym (has s s_in).same) in
            let pair : IsOppositePair lines f s t = record {
              first = s_in;
              second = t_in;
              above = above;
              below = below;
              meet = inside-all_meet s.sets t.sets (codes_at s.shape p) (omega (arith, sets)) s_inside
                  (subst (λ (d : List Domain). AreCodesIn t.sets (codes_at d p)) same t_inside);
            } in
            pair_leaves p s t pair (undetermined s undecided s_in (above_apart (factor s f) above))
            (undetermined t undecided t_in (below_apart (factor t f) below)) s_inside t_inside
            (here (combination s t f) (pair-eliminated undecided s t pair))

        both : (a b : Bool) → a ≡ true → b ≡ true → (a && b) ≡ true
        both a b e h = rw (e, h) refl

        -- a bound's relation is the line's
        own : (line : LineParts) (z : ℤ) → IsIn line lines → factor line f ≢ pos 0 → IsEnough (bound_relation (is_above line.relation)) z
            → IsEnough line.relation z
        own line z there apart = subst (λ (r : Relation). IsEnough r z) (bound_is line.relation (undetermined line undecided there apart))

        with_value : (line : LineParts) (v d : ℤ)
            → (low : IsWithin (λ l. factor l f) (λ l. rest_at l f p) (λ (l : LineParts). is_above l.relation) (lower_bounds p) v d)
            → IsWithin (λ l. factor l f) (λ l. rest_at l f p) (λ (l : LineParts). is_above l.relation) (upper_bounds p) v d
            → IsIn line lines → LineHolds line (put p f (p.code f) v d low.above)
        with_value line v d low high there = holds-put line p f v d low.above (λ inside. by inside (by_sign (factor line f)))
          where
            by : AreCodesIn line.sets (codes_at line.shape p) → (pos 0 <ℤ factor line f) ⊎ ((factor line f ≡ pos 0) ⊎ (factor line f <ℤ pos 0))
                → IsEnough line.relation (factor line f *ℤ v +ℤ rest_at line f p *ℤ d)
            by inside (inl above) =
                own line (factor line f *ℤ v +ℤ rest_at line f p *ℤ d) there (above_apart (factor line f) above)
                (low.within line (in-filter (λ l. is_lower f l && are_codes_in l.sets (codes_at l.shape p)) line lines
                (both _ _ (above_told (factor line f) above) ((is_inside-Decides line.sets (codes_at line.shape p)).1 inside)) there))
            by inside (inr (inl none)) =
                subst (λ (k : ℤ). IsEnough line.relation k) (no_part (factor line f) v (amount line p) (p.numerator f) d none)
                (IsEnough-times line.relation (amount line p) d low.above ((here line (flat-eliminated line there none)).enough inside))
            by inside (inr (inr below)) =
                own line (factor line f *ℤ v +ℤ rest_at line f p *ℤ d) there (below_apart (factor line f) below)
                (high.within line (in-filter (λ l. is_upper f l && are_codes_in l.sets (codes_at l.shape p)) line lines
                (both _ _ (below_told (factor line f) below) ((is_inside-Decides line.sets (codes_at line.shape p)).1 inside)) there))

    -- where the step's lines hold, some value at the field makes the lines hold
    pub eliminated-lifts : (p : Point) → AllHold (eliminated lines f) p → (q : Point) × DiffersOnlyAt f p q × ((i : ℕ) → q.code i ≡ p.code i) × AllHold lines q
    eliminated-lifts p holds = by (find (determines f) lines) refl
      where
        by : (o : Option LineParts) → find (determines f) lines ≡ o → (q : Point) × DiffersOnlyAt f p q × ((i : ℕ) → q.code i ≡ p.code i) × AllHold lines q
        by (Some e) found = forced-lifts p e found holds
        by None undecided = bounded-lifts p undecided holds

-- ---- the step, reduced

module _ (shape : List Domain) (lines : List LineParts) (f : ℕ) (over : HaveShape shape lines) where
  -- the step's lines are over the fields of the lines
  pub HaveShape-step : HaveShape shape (step lines f)
  HaveShape-step = HaveShape-reduce shape (eliminated lines f) (HaveShape-eliminated lines f shape over)

  -- the field stands in none of them
  pub step-flat : All (λ line. factor line f ≡ pos 0) (step lines f)
  step-flat = all-reduce (λ line. factor line f ≡ pos 0) (eliminated lines f) (flat-all lines f shape over)

  -- where the lines hold, they do
  pub step-follows : (p : Point) → AllHold lines p → AllHold (step lines f) p
  step-follows p holds = reduce-holds (eliminated lines f) p (eliminated-follows lines f shape over p holds)

  -- they hold at a point where some value at the field makes the lines hold
  pub step-holds : (p q : Point) → IsNumerical shape f → DiffersOnlyAt f p q → AllHold lines q → AllHold (step lines f) p
  step-holds p q number differs holds = reduce-holds (eliminated lines f) p (eliminated-holds lines f shape over p q number differs holds)

  -- and where they hold, some value at the field makes the lines hold
  pub step-lifts : (p : Point) → AllHold (step lines f) p → (q : Point) × DiffersOnlyAt f p q × ((i : ℕ) → q.code i ≡ p.code i) × AllHold lines q
  step-lifts p holds =
      eliminated-lifts lines f shape over p (holds-reduce shape (eliminated lines f) p
      (λ k d below. (HaveShape-eliminated lines f shape over k d below).same) holds)
