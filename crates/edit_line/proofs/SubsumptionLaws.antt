use Rattle.std.proofs.Common.{◌≡◌, ◌&&◌, ◌||◌, not, Bool, true, false, List, [], ◌∷◌, ℤ, pos, int_lt, ◌<ℤ◌, ◌+ℤ◌, ◌-ℤ◌, ◌*ℤ◌, refl, sym, ap, ◌∙◌, subst, arith}
use Rattle.std.specs.Bool.{Decides}
use Rattle.std.specs.List.{list_all}
use Rattle.std.specs.Ordering.{int_eq}
use Rattle.std.proofs.lemmas.Bool.Decides.{Decides-int_eq}
use Rattle.std.proofs.lemmas.Int.{ints}
use Rattle.std.proofs.lemmas.Slice.Eq.{slice_eq-Decides}
use Rattle.fraction128.proofs.Signs.{above-*}
use Rattle.fraction128.proofs.Whole.{parts, ring, same_dif}
use Rattle.edit_model.specs.Points.{Point}
use Rattle.edit_line.specs.Lines.{Follows, IsEnough, LineHolds, LineParts, amount, is_equal, weighted}
use Rattle.edit_line.specs.Sets.{AreCodesIn, are_subsets}
use Rattle.edit_line.specs.Shapes.{Domain, codes_at, numerators_at}
use Rattle.edit_line.specs.Subsumption.{has_no_factor, implies, is_enough, is_false, is_tighter, is_trivial, same_all, subsumes}
use Rattle.edit_line.specs.declared.relation.Relation.{Relation}
use Rattle.edit_line.proofs.Enough.{IsEnough-more, IsEnough-times, IsEnough-weaker, IsEnough_cancel, is_enough-Decides}
use Rattle.edit_line.proofs.SetLaws.{both_true, inside-all_inside}

-- What a line that subsumes another says of it, and when a line says nothing.

zero_times : (x w : ℤ) → w ≡ pos 0 → pos 0 *ℤ x +ℤ w ≡ pos 0
zero_times x w e = rw (e, parts x) (simp ring (same_dif _ _ _ _ (omega arith)))

-- without a factor nothing is added
pub weighted-none : (factors values : List ℤ) → list_all (λ a. int_eq a (pos 0)) factors ≡ true → weighted factors values ≡ pos 0
weighted-none [] values none = refl
weighted-none (a ∷ factors) [] none = refl
weighted-none (a ∷ factors) (x ∷ values) none =
    let (here, rest) = both_true _ _ none in
    let is : a ≡ pos 0 = (Decides-int_eq a (pos 0)).0 here in
    ap (λ (b : ℤ). b *ℤ x +ℤ weighted factors values) is ∙ zero_times x _ (weighted-none factors values rest)

nothing_before : (z : ℤ) → pos 0 +ℤ z ≡ z
nothing_before z = rw (parts z) (simp ring (same_dif _ _ _ _ (omega arith)))

-- a line without factors has its constant as amount
pub amount-constant : (line : LineParts) (p : Point) → has_no_factor line ≡ true → amount line p ≡ line.constant *ℤ p.denominator
amount-constant line p none = ap (λ (w : ℤ). w +ℤ line.constant *ℤ p.denominator) (weighted-none line.factors _ none) ∙ nothing_before _

-- a trivial line holds everywhere
pub trivial-holds : (line : LineParts) (p : Point) → is_trivial line ≡ true → LineHolds line p
trivial-holds line p trivial =
    let (none, holds) = both_true _ _ trivial in
    record {
      enough = λ inside.
          subst (λ (z : ℤ). IsEnough line.relation z) (sym (amount-constant line p none)) (IsEnough-times line.relation line.constant p.denominator p.positive
          ((is_enough-Decides line.relation line.constant).0 holds));
    }

-- a false line holds only where some code is outside its set
pub false-outside : (line : LineParts) (p : Point) → is_false line ≡ true → LineHolds line p → AreCodesIn line.sets (codes_at line.shape p) → ⊥
false-outside line p never holds inside =
    let (none, fails) = both_true _ _ never in
    let at_constant : IsEnough line.relation (line.constant *ℤ p.denominator) = subst (λ (z : ℤ). IsEnough line.relation z) (amount-constant line p none)
    (holds.enough inside) in
    let enough : is_enough line.relation line.constant ≡ true = (is_enough-Decides line.relation line.constant).1
    (IsEnough_cancel line.relation line.constant p.denominator p.positive at_constant) in
    absurd (not_both (is_enough line.relation line.constant) enough fails)
  where
    not_both : (b : Bool) → b ≡ true → not b ≡ true → ⊥
    not_both true h e = cc
    not_both false h e = cc

-- ---- equal factors, and a constant that is less or equal

further : (w a b d : ℤ) → w +ℤ b *ℤ d ≡ (w +ℤ a *ℤ d) +ℤ (b -ℤ a) *ℤ d
further w a b d = rw (parts w, parts a, parts b, parts d) (simp ring (same_dif _ _ _ _ (omega arith)))

-- the constant's part in the test
tight : (first second : Relation) (w a b d : ℤ) → pos 0 <ℤ d → ((int_lt a b && not (is_equal second)) || (int_eq a b && implies first second)) ≡ true
    → IsEnough first (w +ℤ a *ℤ d) → IsEnough second (w +ℤ b *ℤ d)
tight first second w a b d above test h = by (int_lt a b) (is_equal second) refl refl test
  where
    less : int_lt a b ≡ true → pos 0 <ℤ (b -ℤ a)
    less e = grind (arith, ints)

    level : (int_eq a b && implies first second) ≡ true → IsEnough second (w +ℤ b *ℤ d)
    level t =
        let (equal, stronger) = both_true _ _ t in
        let is : a ≡ b = (Decides-int_eq a b).0 equal in
        subst (λ (c : ℤ). IsEnough second (w +ℤ c *ℤ d)) is (IsEnough-weaker first second _ stronger h)

    by : (l e : Bool) → int_lt a b ≡ l → is_equal second ≡ e → ((l && not e) || (int_eq a b && implies first second)) ≡ true → IsEnough second (w +ℤ b *ℤ d)
    by true false is apart t = subst (λ (z : ℤ). IsEnough second z) (sym (further w a b d))
        (IsEnough-more first second (w +ℤ a *ℤ d) ((b -ℤ a) *ℤ d) apart h (above-* (b -ℤ a) d (less is) above))
    by true true is apart t = level t
    by false e is apart t = level t

pub same_all-Decides : (first second : List ℤ) → Decides (same_all first second) (first ≡ second)
same_all-Decides first second = slice_eq-Decides {E = int_eq} Decides-int_eq first second (same_all first second) refl

-- where a subsumes b, b holds wherever a does
pub subsumes-holds : (a b : LineParts) (p : Point) → b.shape ≡ a.shape → subsumes a b ≡ true → LineHolds a p → LineHolds b p
subsumes-holds a b p shape test holds =
    let (lie, either) = both_true _ _ test in
    record {
      enough = λ inside.
          let in_a : AreCodesIn a.sets (codes_at a.shape p) = inside-all_inside b.sets a.sets (codes_at a.shape p) lie
          (subst (λ (s : List Domain). AreCodesIn b.sets (codes_at s p)) shape inside) in
          by (is_false a) refl either in_a;
    }
  where
    by : (f : Bool) → is_false a ≡ f → (f || (same_all a.factors b.factors && is_tighter a b)) ≡ true → AreCodesIn a.sets (codes_at a.shape p)
        → IsEnough b.relation (amount b p)
    by true never either in_a = absurd (false-outside a p never holds in_a)
    by false _ either in_a =
        let (equal, tighter) = both_true _ _ either in
        let factors : a.factors ≡ b.factors = (same_all-Decides a.factors b.factors).0 equal in
        let here : IsEnough b.relation (weighted a.factors (numerators_at a.shape p) +ℤ b.constant *ℤ p.denominator) =
        tight a.relation b.relation _ a.constant b.constant p.denominator p.positive tighter (holds.enough in_a) in
        let moved : IsEnough b.relation (weighted b.factors (numerators_at a.shape p) +ℤ b.constant *ℤ p.denominator) =
        subst (λ (fs : List ℤ). IsEnough b.relation (weighted fs (numerators_at a.shape p) +ℤ b.constant *ℤ p.denominator)) factors here in
        subst (λ (s : List Domain). IsEnough b.relation (weighted b.factors (numerators_at s p) +ℤ b.constant *ℤ p.denominator)) (sym shape) moved

-- so b follows from a
pub subsumes-follows : (a b : LineParts) → b.shape ≡ a.shape → subsumes a b ≡ true → Follows (a ∷ []) b
subsumes-follows a b shape test p holds = subsumes-holds a b p shape test (holds 0 a (omega arith))

-- when a subsumes b
pub subsumes-false : (a b : LineParts) → are_subsets b.sets a.sets ≡ true → is_false a ≡ true → subsumes a b ≡ true
subsumes-false a b lie never = rw lie (rw never refl)

pub subsumes-tight : (a b : LineParts) → are_subsets b.sets a.sets ≡ true → same_all a.factors b.factors ≡ true → is_tighter a b ≡ true → subsumes a b ≡ true
subsumes-tight a b lie equal tighter = chosen (are_subsets b.sets a.sets) (is_false a) (same_all a.factors b.factors) (is_tighter a b) lie equal tighter
  where
    chosen : (l f s t : Bool) → l ≡ true → s ≡ true → t ≡ true → (l && (f || (s && t))) ≡ true
    chosen true true s t h i j = refl
    chosen true false true t h i j = j
    chosen true false false t h i j = i
    chosen false f s t h i j = h
