use Rattle.std.proofs.Common.{◌≡◌, ◌≢◌, Bool, true, false, if◌then◌else◌, inl, inr, int_lt, ◌≤ℤ◌, ℕ, zero, suc, List, [], ◌∷◌, All, map, ℤ, pos}
use Rattle.std.proofs.Common.{negsuc, ◌<ℤ◌, ◌+ℤ◌, ◌*ℤ◌, int_div, unsigned_abs, refl, sym, ap, ◌∙◌, subst, arith}
use lib.IntN.{neg_ℤ}
use Rattle.std.specs.Int.{◌∣◌}
use Rattle.std.proofs.lemmas.List.{length-map}
use Rattle.fraction128.specs.Divisor.{gcd}
use Rattle.fraction128.proofs.DivisorLaws.{IsGcd-gcd, quotient-above, quotient-exact}
use Rattle.std.proofs.lemmas.Int.{ints}
use Rattle.fraction128.proofs.CofactorLaws.{common_divisor-above}
use Rattle.fraction128.proofs.Signs.{above_cancel, same_cancel}
use Rattle.fraction128.proofs.Whole.{comm, parts, ring, same_dif}
use Rattle.edit_line.specs.Divisors.{divisor_of, reduced}
use Rattle.edit_line.specs.Lines.{HasShape, LineParts, factor}
use Rattle.edit_line.specs.Shapes.{Domain, beside, number_fields, whole_sets}
use Rattle.edit_line.proofs.DivisionLaws.{divides-constant, divides-factors, divisor-above}
use Rattle.edit_line.specs.Combinations.{all_meet, combined, in_both, sum_of}
use Rattle.edit_line.specs.declared.relation.Relation.{Relation}
use Rattle.edit_line.specs.declared.relation.Relation.TheVariants.{Equal}
use Rattle.edit_line.proofs.LineSums.{AreSets-meets}
use Rattle.edit_line.proofs.RelationLaws.{joined-equal, keeps-above}
use Rattle.edit_line.proofs.WholeSets.{in_both-same, whole-meets}
use Rattle.edit_line.proofs.AllowedSums.{IsAllowedSum, IsCombined, KeepsEnough}
use Rattle.linear_elim.specs.Combinations.{combination, first_multiplier, second_multiplier, with_sign_of}
use Rattle.linear_elim.proofs.BetweenLaws.{above_neg, by_sign}
use Rattle.edit_line.proofs.CombinationLaws.{beside-combined, beside-scaled, length-combined, length-meets}

-- The combination of two opposite lines, or of an equality and another line, is an allowed sum, and the field is gone from it.

quotients-whole : (g : ℕ) (xs : List ℤ) → All (λ x. g ∣ unsigned_abs x) xs → map (λ c. pos g *ℤ c) (map (λ c. int_div c (pos g)) xs) ≡ xs
quotients-whole g [] divides = refl
quotients-whole g (x ∷ xs) divides =
    let here : pos g *ℤ int_div x (pos g) ≡ x = comm (pos g) (int_div x (pos g)) ∙ quotient-exact x _ g refl (divides 0 x (omega arith)) in
    let rest = quotients-whole g xs (λ k d below. divides (suc k) d (omega arith)) in
    λ i. here i ∷ rest i

-- a divided sum is a combination, whatever the multipliers
pub divided-combined : (m n : ℤ) (s t : LineParts) → t.shape ≡ s.shape
    → IsCombined m n (divisor_of (combined m n s.factors t.factors) (m *ℤ s.constant +ℤ n *ℤ t.constant)) s t (reduced (sum_of m n s t))
unfolding reduced
divided-combined m n s t same = record {
  shape = refl;
  same = same;
  sets = refl;
  factors = quotients-whole _ _ (divides-factors (combined m n s.factors t.factors) (m *ℤ s.constant +ℤ n *ℤ t.constant));
  constant =
      comm (divisor_of (combined m n s.factors t.factors) (m *ℤ s.constant +ℤ n *ℤ t.constant)) _
      ∙ quotient-exact _ _ _ refl (divides-constant (combined m n s.factors t.factors) (m *ℤ s.constant +ℤ n *ℤ t.constant));
  relation = refl;
}

-- ---- the multipliers

size_neg : (z : ℤ) → unsigned_abs (neg_ℤ z) ≡ unsigned_abs z
size_neg (pos zero) = refl
size_neg (pos (suc n)) = refl
size_neg (negsuc n) = refl

size_turned : (a z : ℤ) → unsigned_abs (with_sign_of a z) ≡ unsigned_abs z
size_turned a z = by (int_lt a (pos 0))
  where
    by : (b : Bool) → unsigned_abs (if b then neg_ℤ z else z) ≡ unsigned_abs z
    by true = size_neg z
    by false = refl

-- turned by a number above 0, a number stays
turned-by_above : (a z : ℤ) → pos 0 <ℤ a → with_sign_of a z ≡ z
turned-by_above a z above = by (int_lt a (pos 0)) refl
  where
    by : (b : Bool) → int_lt a (pos 0) ≡ b → (if b then neg_ℤ z else z) ≡ z
    by true e = absurd (grind (arith, ints, e, above))
    by false e = refl

-- turned by itself, it is above 0
pub turned-itself : (a : ℤ) → a ≢ pos 0 → pos 0 <ℤ with_sign_of a a
turned-itself a apart = by (int_lt a (pos 0)) refl
  where
    below : int_lt a (pos 0) ≡ true → a <ℤ pos 0
    below e = grind (arith, ints)

    least : int_lt a (pos 0) ≡ false → pos 0 ≤ℤ a
    least e = grind (arith, ints)

    by : (b : Bool) → int_lt a (pos 0) ≡ b → pos 0 <ℤ (if b then neg_ℤ a else a)
    by true e = above_neg a (below e)
    by false e = elim (by_sign a) [
      | inl above ↦ above
      | inr other ↦ elim other [ inl none ↦ absurd (apart none) | inr under ↦ absurd (omega (arith, ints, under, least e)) ]
    ]

-- only 0 turns to 0
turned-none : (a z : ℤ) → with_sign_of a (neg_ℤ z) ≡ pos 0 → z ≡ pos 0
turned-none a z = by (int_lt a (pos 0))
  where
    by : (b : Bool) → (if b then neg_ℤ (neg_ℤ z) else neg_ℤ z) ≡ pos 0 → z ≡ pos 0
    by true e = omega (arith, ints, e)
    by false e = omega (arith, ints, e)

module _ (s t : LineParts) (f : ℕ) where
  first-exact : first_multiplier s t f *ℤ pos (gcd (unsigned_abs (factor s f)) (unsigned_abs (factor t f))) ≡ with_sign_of (factor s f) (neg_ℤ (factor t f))
  unfolding first_multiplier
  first-exact = quotient-exact (with_sign_of (factor s f) (neg_ℤ (factor t f))) _ _ refl divides
    where
      divides : gcd (unsigned_abs (factor s f)) (unsigned_abs (factor t f)) ∣ unsigned_abs (with_sign_of (factor s f) (neg_ℤ (factor t f)))
      divides =
          subst (λ n. gcd (unsigned_abs (factor s f)) (unsigned_abs (factor t f)) ∣ n)
          (sym (size_turned (factor s f) (neg_ℤ (factor t f)) ∙ size_neg (factor t f))) (IsGcd-gcd (unsigned_abs (factor s f)) (unsigned_abs (factor t f))).1

  divides_s : gcd (unsigned_abs (factor s f)) (unsigned_abs (factor t f)) ∣ unsigned_abs (with_sign_of (factor s f) (factor s f))
  divides_s =
      subst (λ n. gcd (unsigned_abs (factor s f)) (unsigned_abs (factor t f)) ∣ n) (sym (size_turned (factor s f) (factor s f)))
      (IsGcd-gcd (unsigned_abs (factor s f)) (unsigned_abs (factor t f))).0

  second-exact : second_multiplier s t f *ℤ pos (gcd (unsigned_abs (factor s f)) (unsigned_abs (factor t f))) ≡ with_sign_of (factor s f) (factor s f)
  unfolding second_multiplier
  second-exact = quotient-exact (with_sign_of (factor s f) (factor s f)) _ _ refl divides_s

  -- the second is positive
  pub second-above : factor s f ≢ pos 0 → pos 0 <ℤ second_multiplier s t f
  unfolding second_multiplier
  second-above apart = quotient-above (with_sign_of (factor s f) (factor s f)) _ _ refl divides_s (turned-itself (factor s f) apart)

  -- so is the first, where the lines are above and below 0 at the field
  pub first-above : pos 0 <ℤ factor s f → factor t f <ℤ pos 0 → pos 0 <ℤ first_multiplier s t f
  first-above above below =
      above_cancel (first_multiplier s t f) (pos (gcd (unsigned_abs (factor s f)) (unsigned_abs (factor t f)))) (divisor-positive below)
      (subst (λ (z : ℤ). pos 0 <ℤ z) (sym (first-exact ∙ turned-by_above (factor s f) (neg_ℤ (factor t f)) above)) (above_neg (factor t f) below))
    where
      divisor-positive : factor t f <ℤ pos 0 → pos 0 <ℤ pos (gcd (unsigned_abs (factor s f)) (unsigned_abs (factor t f)))
      divisor-positive below = common_divisor-above (factor s f) (factor t f) _ refl (λ none. absurd (omega (arith, ints, none, below)))

  -- and it is not 0 where the field stands in t
  pub first-apart : factor t f ≢ pos 0 → first_multiplier s t f ≢ pos 0
  first-apart apart none =
      apart (turned-none (factor s f) (factor t f) (sym first-exact
      ∙ ap (λ (m : ℤ). m *ℤ pos (gcd (unsigned_abs (factor s f)) (unsigned_abs (factor t f)))) none
      ∙ nothing (pos (gcd (unsigned_abs (factor s f)) (unsigned_abs (factor t f))))))
    where
      nothing : (g : ℤ) → pos 0 *ℤ g ≡ pos 0
      nothing g = rw (parts g) (simp ring (same_dif _ _ _ _ (omega arith)))

  -- and with them the field goes
  pub multipliers-cancel : first_multiplier s t f *ℤ factor s f +ℤ second_multiplier s t f *ℤ factor t f ≡ pos 0
  multipliers-cancel = goes (int_lt (factor s f) (pos 0)) _ _ _ (factor s f) (factor t f) first-exact second-exact
    where
      twice : (b : ℤ) → b ≡ neg_ℤ (neg_ℤ b)
      twice b = rw (parts b) (simp ring (same_dif _ _ _ _ (omega arith)))

      opened : (m n g : ℤ) → m *ℤ (n *ℤ g) +ℤ n *ℤ neg_ℤ (m *ℤ g) ≡ pos 0
      opened m n g = rw (parts m, parts n, parts g) (simp ring (same_dif _ _ _ _ (omega arith)))

      turned : (m n g : ℤ) → m *ℤ neg_ℤ (n *ℤ g) +ℤ n *ℤ (m *ℤ g) ≡ pos 0
      turned m n g = rw (parts m, parts n, parts g) (simp ring (same_dif _ _ _ _ (omega arith)))

      goes : (b : Bool) (m n g a c : ℤ) → m *ℤ g ≡ (if b then neg_ℤ (neg_ℤ c) else neg_ℤ c) → n *ℤ g ≡ (if b then neg_ℤ a else a) → m *ℤ a +ℤ n *ℤ c ≡ pos 0
      goes false m n g a c e h =
          ap (λ (x : ℤ). m *ℤ x +ℤ n *ℤ c) (sym h)
          ∙ ap (λ (x : ℤ). m *ℤ (n *ℤ g) +ℤ n *ℤ x) (twice c)
          ∙ ap (λ (x : ℤ). m *ℤ (n *ℤ g) +ℤ n *ℤ neg_ℤ x) (sym e)
          ∙ opened m n g
      goes true m n g a c e h =
          ap (λ (x : ℤ). m *ℤ x +ℤ n *ℤ c) (twice a ∙ ap neg_ℤ (sym h))
          ∙ ap (λ (x : ℤ). m *ℤ neg_ℤ (n *ℤ g) +ℤ n *ℤ x) (twice c ∙ sym e)
          ∙ turned m n g

-- ---- pairs that may be combined

-- the field stands in both, each multiplied so keeps what is enough, and all their sets meet
pub record IsAllowedPair (f : ℕ) (s t : LineParts) : Type 0 where
  pub first_stands : factor s f ≢ pos 0
  pub second_stands : factor t f ≢ pos 0
  pub first_keeps : KeepsEnough s.relation (first_multiplier s t f)
  pub second_keeps : KeepsEnough t.relation (second_multiplier s t f)
  pub meet : all_meet s.sets t.sets ≡ true

pub above_stands : (a : ℤ) → pos 0 <ℤ a → a ≢ pos 0
above_stands a above none = omega (arith, ints, none, above)

below_stands : (a : ℤ) → a <ℤ pos 0 → a ≢ pos 0
below_stands a below none = omega (arith, ints, none, below)

-- a line above 0 at the field and one below 0 there, whose sets meet
pub opposite-allowed : (f : ℕ) (s t : LineParts) → pos 0 <ℤ factor s f → factor t f <ℤ pos 0 → all_meet s.sets t.sets ≡ true → IsAllowedPair f s t
opposite-allowed f s t above below meet = record {
  first_stands = above_stands (factor s f) above;
  second_stands = below_stands (factor t f) below;
  first_keeps = keeps-above s.relation (first_multiplier s t f) (first-above s t f above below);
  second_keeps = keeps-above t.relation (second_multiplier s t f) (second-above s t f (above_stands (factor s f) above));
  meet = meet;
}

-- an equality with the field, and another line with it
pub equality-allowed : (shape : List Domain) (f : ℕ) (e t : LineParts) → HasShape shape e → HasShape shape t → e.relation ≡ Equal → factor e f ≢ pos 0
    → factor t f ≢ pos 0 → IsAllowedPair f e t
equality-allowed shape f e t one two equal e_stands t_stands = record {
  first_stands = e_stands;
  second_stands = t_stands;
  first_keeps = subst (λ (r : Relation). KeepsEnough r (first_multiplier e t f)) (sym equal) tt;
  second_keeps = keeps-above t.relation (second_multiplier e t f) (second-above e t f e_stands);
  meet = ap (λ (ss : List ℕ). all_meet ss t.sets) (one.whole equal) ∙ whole-meets shape t.sets two.fit;
}

-- ---- the combination

-- g times the factor of a combination
pub factor-combined : (m n g : ℤ) (s t line : LineParts) (f : ℕ) → IsCombined m n g s t line → g *ℤ factor line f ≡ m *ℤ factor s f +ℤ n *ℤ factor t f
factor-combined m n g s t line f is =
    sym (beside-scaled g (number_fields line.shape) line.factors f)
    ∙ ap (λ (fs : List ℤ). beside (pos 0) (number_fields line.shape) fs f) is.factors
    ∙ ap (λ (shape : List Domain). beside (pos 0) (number_fields shape) (combined m n s.factors t.factors) f) is.shape
    ∙ beside-combined m n (number_fields s.shape) s.factors t.factors f
    ∙ ap (λ (shape : List Domain). m *ℤ factor s f +ℤ n *ℤ beside (pos 0) (number_fields shape) t.factors f) (sym is.same)

-- what the combination's numbers are divided by
abbrev pub combination_divisor : LineParts → LineParts → ℕ → ℤ
combination_divisor s t f =
    divisor_of (sum_of (first_multiplier s t f) (second_multiplier s t f) s t).factors (sum_of (first_multiplier s t f) (second_multiplier s t f) s t).constant

-- the combination of such a pair is an allowed sum
pub combination-is : (s t : LineParts) (f : ℕ) → t.shape ≡ s.shape → IsAllowedPair f s t
    → IsAllowedSum (first_multiplier s t f) (second_multiplier s t f) (combination_divisor s t f) s t (combination s t f)
combination-is s t f same pair = record {
  m_keeps = pair.first_keeps;
  n_keeps = pair.second_keeps;
  g_above =
      divisor-above (sum_of (first_multiplier s t f) (second_multiplier s t f) s t).factors
      (sum_of (first_multiplier s t f) (second_multiplier s t f) s t).constant;
  combined = divided-combined (first_multiplier s t f) (second_multiplier s t f) s t same;
}

-- and the field is gone from it
pub combination-flat : (s t : LineParts) (f : ℕ) → t.shape ≡ s.shape → factor (combination s t f) f ≡ pos 0
combination-flat s t f same =
    gone _ _ (divisor-above (sum_of (first_multiplier s t f) (second_multiplier s t f) s t).factors
    (sum_of (first_multiplier s t f) (second_multiplier s t f) s t).constant)
    (factor-combined (first_multiplier s t f) (second_multiplier s t f) _ s t (combination s t f) f
    (divided-combined (first_multiplier s t f) (second_multiplier s t f) s t same) ∙ multipliers-cancel s t f)
  where
    none : (g : ℤ) → pos 0 ≡ pos 0 *ℤ g
    none g = rw (parts g) (simp ring (same_dif _ _ _ _ (omega arith)))

    gone : (g c : ℤ) → pos 0 <ℤ g → g *ℤ c ≡ pos 0 → c ≡ pos 0
    gone g c g_above e = same_cancel c (pos 0) g g_above (comm c g ∙ e ∙ none g)

-- the combination is over the fields of both
pub HasShape-combination : (shape : List Domain) (s t : LineParts) (f : ℕ) → HasShape shape s → HasShape shape t → all_meet s.sets t.sets ≡ true
    → HasShape shape (combination s t f)
unfolding reduced
HasShape-combination shape s t f one two meet = record {
  same = one.same;
  sets = length-meets s.sets t.sets (one.sets ∙ sym two.sets) ∙ one.sets;
  factors =
      length-map _ _ ∙ length-combined (first_multiplier s t f) (second_multiplier s t f) s.factors t.factors (one.factors ∙ sym two.factors) ∙ one.factors;
  fit = AreSets-meets s.sets t.sets (whole_sets shape) one.fit two.fit meet;
  whole = λ equal.
      let (s_equal, t_equal) = joined-equal s.relation t.relation equal in
      (λ i. in_both (one.whole s_equal i) (two.whole t_equal i)) ∙ in_both-same (whole_sets shape);
}
