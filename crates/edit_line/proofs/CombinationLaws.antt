use Rattle.std.proofs.Common.{◌≡◌, ◌==◌, Bool, true, false, not, nat_eq, ◌≤◌, List, [], ◌∷◌, ℕ, ℤ, pos, ◌<ℤ◌, ◌≤ℤ◌, ◌+ℤ◌, ◌*ℤ◌, bit_and, length, map}
use Rattle.std.proofs.Common.{if◌then◌else◌, refl, sym, ap, ◌∙◌, subst, arith}
use Rattle.std.proofs.lemmas.Bool.Decides.{Decides-eqb}
use Rattle.std.proofs.lemmas.Int.{ints}
use Rattle.std.proofs.lemmas.Nat.Bits.{bit_at_and, bit_at-lt, bit_at-zero}
use Rattle.std.specs.Int.{bit_at}
use Rattle.fraction128.proofs.Signs.{above-*, at_least-*}
use Rattle.fraction128.proofs.Whole.{comm, parts, ring, same_dif}
use Rattle.edit_model.specs.Points.{Point}
use Rattle.edit_line.specs.Lines.{IsEnough, LineHolds, LineParts, amount, weighted}
use Rattle.edit_line.specs.Sets.{AreCodesIn, HasCode}
use Rattle.edit_line.specs.Shapes.{Domain, beside, codes_at, numerators_at}
use Rattle.edit_line.specs.declared.relation.Relation.{Relation}
use Rattle.edit_line.specs.declared.relation.Relation.TheVariants.{Above, AtLeast, Equal}
use Rattle.edit_line.proofs.Enough.{IsEnough-at_least, IsEnough_cancel}
use Rattle.edit_line.specs.Combinations.{all_meet, combined, in_both, joined}
use Rattle.edit_line.proofs.AllowedSums.{IsCombined, KeepsEnough}

-- A combination of two lines holds where both hold.

-- ---- sums

times_none : (m : ℤ) → pos 0 ≡ m *ℤ pos 0
times_none m = rw (parts m) (simp ring (same_dif _ _ _ _ (omega arith)))

times_nones : (m n : ℤ) → pos 0 ≡ m *ℤ pos 0 +ℤ n *ℤ pos 0
times_nones m n = rw (parts m, parts n) (simp ring (same_dif _ _ _ _ (omega arith)))

add_none : (m w : ℤ) → w ≡ m *ℤ pos 0 +ℤ w
add_none m w = rw (parts m, parts w) (simp ring (same_dif _ _ _ _ (omega arith)))

add_none_last : (m w : ℤ) → w ≡ w +ℤ m *ℤ pos 0
add_none_last m w = rw (parts m, parts w) (simp ring (same_dif _ _ _ _ (omega arith)))

scaled_more : (n b x w v : ℤ) → v ≡ n *ℤ w → (n *ℤ b) *ℤ x +ℤ v ≡ n *ℤ (b *ℤ x +ℤ w)
scaled_more n b x w v e = rw (e, parts n, parts b, parts x, parts w) (simp ring (same_dif _ _ _ _ (omega arith)))

combined_more : (m n a b x u w v : ℤ) → v ≡ m *ℤ u +ℤ n *ℤ w → (m *ℤ a +ℤ n *ℤ b) *ℤ x +ℤ v ≡ m *ℤ (a *ℤ x +ℤ u) +ℤ n *ℤ (b *ℤ x +ℤ w)
combined_more m n a b x u w v e = rw (e, parts m, parts n, parts a, parts b, parts x, parts u, parts w) (simp ring (same_dif _ _ _ _ (omega arith)))

-- the sum of the multiplied factors
pub weighted-scaled : (n : ℤ) (factors values : List ℤ) → weighted (map (λ b. n *ℤ b) factors) values ≡ n *ℤ weighted factors values
weighted-scaled n [] values = times_none n
weighted-scaled n (b ∷ factors) [] = times_none n
weighted-scaled n (b ∷ factors) (x ∷ values) = scaled_more n b x _ _ (weighted-scaled n factors values)

-- the sum of the combined factors
pub weighted-combined : (m n : ℤ) (first second values : List ℤ) → weighted (combined m n first second) values
    ≡ m *ℤ weighted first values +ℤ n *ℤ weighted second values
weighted-combined m n [] [] values = times_nones m n
weighted-combined m n [] (b ∷ second) values = weighted-scaled n (b ∷ second) values ∙ add_none m _
weighted-combined m n (a ∷ first) [] values = weighted-scaled m (a ∷ first) values ∙ add_none_last n _
weighted-combined m n (a ∷ first) (b ∷ second) [] = times_nones m n
weighted-combined m n (a ∷ first) (b ∷ second) (x ∷ values) = combined_more m n a b x _ _ _ (weighted-combined m n first second values)

-- the multiplied factor at a field
pub beside-scaled : (n : ℤ) (fields : List ℕ) (factors : List ℤ) (f : ℕ) → beside (pos 0) fields (map (λ b. n *ℤ b) factors) f
    ≡ n *ℤ beside (pos 0) fields factors f
beside-scaled n [] factors f = times_none n
beside-scaled n (i ∷ fields) [] f = times_none n
beside-scaled n (i ∷ fields) (b ∷ factors) f = by (i == f) (beside-scaled n fields factors f)
  where
    by : (t : Bool) → beside (pos 0) fields (map (λ b. n *ℤ b) factors) f ≡ n *ℤ beside (pos 0) fields factors f
        → (if t then n *ℤ b else beside (pos 0) fields (map (λ b. n *ℤ b) factors) f) ≡ n *ℤ (if t then b else beside (pos 0) fields factors f)
    by true e = refl
    by false e = e

-- and the combined one
pub beside-combined : (m n : ℤ) (fields : List ℕ) (first second : List ℤ) (f : ℕ) → beside (pos 0) fields (combined m n first second) f
    ≡ m *ℤ beside (pos 0) fields first f +ℤ n *ℤ beside (pos 0) fields second f
beside-combined m n [] first second f = times_nones m n
beside-combined m n (i ∷ fields) [] [] f = times_nones m n
beside-combined m n (i ∷ fields) [] (b ∷ second) f = beside-scaled n (i ∷ fields) (b ∷ second) f ∙ add_none m _
beside-combined m n (i ∷ fields) (a ∷ first) [] f = beside-scaled m (i ∷ fields) (a ∷ first) f ∙ add_none_last n _
beside-combined m n (i ∷ fields) (a ∷ first) (b ∷ second) f = by (i == f) (beside-combined m n fields first second f)
  where
    by : (t : Bool) → beside (pos 0) fields (combined m n first second) f ≡ m *ℤ beside (pos 0) fields first f +ℤ n *ℤ beside (pos 0) fields second f
        → (if t then m *ℤ a +ℤ n *ℤ b else beside (pos 0) fields (combined m n first second) f)
        ≡ m *ℤ (if t then a else beside (pos 0) fields first f) +ℤ n *ℤ (if t then b else beside (pos 0) fields second f)
    by true e = refl
    by false e = e

-- there are as many combined factors as factors
pub length-combined : (m n : ℤ) (first second : List ℤ) → length first ≡ length second → length (combined m n first second) ≡ length first
length-combined m n [] [] e = refl
length-combined m n [] (b ∷ second) e = absurd (omega arith)
length-combined m n (a ∷ first) [] e = absurd (omega arith)
length-combined m n (a ∷ first) (b ∷ second) e = let rest = length-combined m n first second (omega arith) in omega arith

-- ---- sets

-- a code of both sets
pub HasCode-both : (s t code : ℕ) → HasCode (bit_and s t) code → HasCode s code × HasCode t code
HasCode-both s t code h = (
  omega (arith, bit_at_and s t code, bit_at-lt s code, bit_at-lt t code, h),
  omega (arith, bit_at_and s t code, bit_at-lt s code, bit_at-lt t code, h),
)

both-HasCode : (s t code : ℕ) → HasCode s code → HasCode t code → HasCode (bit_and s t) code
both-HasCode s t code h k = omega (arith, bit_at_and s t code, h, k)

-- codes where the sets meet are in both
pub meets-inside : (first second codes : List ℕ) → AreCodesIn (in_both first second) codes → AreCodesIn first codes × AreCodesIn second codes
meets-inside [] second codes inside = (tt, inside)
meets-inside (s ∷ first) [] codes inside = (inside, tt)
meets-inside (s ∷ first) (t ∷ second) [] inside = (tt, tt)
meets-inside (s ∷ first) (t ∷ second) (code ∷ codes) inside =
    let (one, two) = HasCode-both s t code inside.0 in
    let (rest, others) = meets-inside first second codes inside.1 in
    ((one, rest), (two, others))

-- and the other way round
pub inside-meets : (first second codes : List ℕ) → AreCodesIn first codes → AreCodesIn second codes → AreCodesIn (in_both first second) codes
inside-meets [] second codes one two = two
inside-meets (s ∷ first) [] codes one two = one
inside-meets (s ∷ first) (t ∷ second) [] one two = tt
inside-meets (s ∷ first) (t ∷ second) (code ∷ codes) one two = (both-HasCode s t code one.0 two.0, inside-meets first second codes one.1 two.1)

-- sets that have a code of each field in common all meet
pub inside-all_meet : (first second codes : List ℕ) → length first ≤ length codes → AreCodesIn first codes → AreCodesIn second codes → all_meet first second
    ≡ true
inside-all_meet [] second codes many one two = refl
inside-all_meet (s ∷ first) [] codes many one two = refl
inside-all_meet (s ∷ first) (t ∷ second) [] many one two = absurd (omega arith)
inside-all_meet (s ∷ first) (t ∷ second) (code ∷ codes) many one two =
    rw (some (bit_and s t) (both-HasCode s t code one.0 two.0)) (inside-all_meet first second codes (omega arith) one.1 two.1)
  where
    none : (n : ℕ) → n ≡ 0 → HasCode n code → ⊥
    none n e h = absurd (omega (arith, ap (λ k. bit_at k code) e, h, bit_at-zero code))

    some : (n : ℕ) → HasCode n code → not (nat_eq n 0) ≡ true
    some n h = by (nat_eq n 0) refl
      where
        by : (b : Bool) → nat_eq n 0 ≡ b → not b ≡ true
        by true e = absurd (none n ((Decides-eqb n 0).0 e) h)
        by false e = refl

-- there are as many sets as before
pub length-meets : (first second : List ℕ) → length first ≡ length second → length (in_both first second) ≡ length first
length-meets [] [] e = refl
length-meets [] (t ∷ second) e = absurd (omega arith)
length-meets (s ∷ first) [] e = absurd (omega arith)
length-meets (s ∷ first) (t ∷ second) e = let rest = length-meets first second (omega arith) in omega arith

-- ---- the combination at a point

amounts_add : (m n u w c d k : ℤ) → (m *ℤ u +ℤ n *ℤ w) +ℤ (m *ℤ c +ℤ n *ℤ d) *ℤ k ≡ m *ℤ (u +ℤ c *ℤ k) +ℤ n *ℤ (w +ℤ d *ℤ k)
amounts_add m n u w c d k = rw (parts m, parts n, parts u, parts w, parts c, parts d, parts k) (simp ring (same_dif _ _ _ _ (omega arith)))

over_parts : (g w c k : ℤ) → g *ℤ (w +ℤ c *ℤ k) ≡ g *ℤ w +ℤ (g *ℤ c) *ℤ k
over_parts g w c k = rw (parts g, parts w, parts c, parts k) (simp ring (same_dif _ _ _ _ (omega arith)))

-- g times the amount of the combination is m times that of s and n times that of t
pub amount-combined : (m n g : ℤ) (s t line : LineParts) (p : Point) → IsCombined m n g s t line → g *ℤ amount line p ≡ m *ℤ amount s p +ℤ n *ℤ amount t p
amount-combined m n g s t line p is =
    over_parts g (weighted line.factors (numerators_at line.shape p)) line.constant p.denominator
    ∙ ap (λ (w : ℤ). w +ℤ (g *ℤ line.constant) *ℤ p.denominator) factors
    ∙ ap (λ (c : ℤ). (m *ℤ weighted s.factors (numerators_at s.shape p) +ℤ n *ℤ weighted t.factors (numerators_at s.shape p)) +ℤ c *ℤ p.denominator) is.constant
    ∙ amounts_add m n _ _ s.constant t.constant p.denominator
    ∙ ap (λ (shape : List Domain). m *ℤ amount s p +ℤ n *ℤ (weighted t.factors (numerators_at shape p) +ℤ t.constant *ℤ p.denominator)) (sym is.same)
  where
    factors : g *ℤ weighted line.factors (numerators_at line.shape p) ≡ m *ℤ weighted s.factors (numerators_at s.shape p) +ℤ n *ℤ weighted t.factors
        (numerators_at s.shape p)
    factors =
        sym (weighted-scaled g line.factors (numerators_at line.shape p))
        ∙ ap (λ (fs : List ℤ). weighted fs (numerators_at line.shape p)) is.factors
        ∙ ap (λ (shape : List Domain). weighted (combined m n s.factors t.factors) (numerators_at shape p)) is.shape
        ∙ weighted-combined m n s.factors t.factors (numerators_at s.shape p)

sum_above : (y z : ℤ) → pos 0 <ℤ y → pos 0 ≤ℤ z → pos 0 <ℤ (y +ℤ z)
sum_above y z h k = omega (arith, ints)

above_sum : (y z : ℤ) → pos 0 ≤ℤ y → pos 0 <ℤ z → pos 0 <ℤ (y +ℤ z)
above_sum y z h k = omega (arith, ints)

sum_least : (y z : ℤ) → pos 0 ≤ℤ y → pos 0 ≤ℤ z → pos 0 ≤ℤ (y +ℤ z)
sum_least y z h k = omega (arith, ints)

weaker : (m : ℤ) → pos 0 <ℤ m → pos 0 ≤ℤ m
weaker m h = omega (arith, ints)

-- a multiple of what is enough
IsEnough-scaled : (relation : Relation) (m y : ℤ) → KeepsEnough relation m → IsEnough relation y → IsEnough relation (m *ℤ y)
IsEnough-scaled AtLeast m y keeps h = at_least-* m y (weaker m keeps) h
IsEnough-scaled Above m y keeps h = above-* m y keeps h
IsEnough-scaled Equal m y keeps h = rw h (sym (times_none m))

-- two numbers that are enough
IsEnough-joined : (first second : Relation) (y z : ℤ) → IsEnough first y → IsEnough second z → IsEnough (joined first second) (y +ℤ z)
IsEnough-joined AtLeast AtLeast y z h k = sum_least y z h k
IsEnough-joined AtLeast Above y z h k = above_sum y z h k
IsEnough-joined AtLeast Equal y z h k = sum_least y z h (IsEnough-at_least Equal z k)
IsEnough-joined Above second y z h k = sum_above y z h (IsEnough-at_least second z k)
IsEnough-joined Equal second y z h k = subst (λ (x : ℤ). IsEnough second x) (sym (only z y h)) k
  where
    only : (z y : ℤ) → y ≡ pos 0 → y +ℤ z ≡ z
    only z y e = rw (e, parts z) (simp ring (same_dif _ _ _ _ (omega arith)))

-- m times what is enough and n times what is enough
pub IsEnough-sum : (first second : Relation) (m n y z : ℤ) → KeepsEnough first m → KeepsEnough second n → IsEnough first y → IsEnough second z
    → IsEnough (joined first second) (m *ℤ y +ℤ n *ℤ z)
IsEnough-sum first second m n y z m_keeps n_keeps h k = IsEnough-joined first second (m *ℤ y) (n *ℤ z) (IsEnough-scaled first m y m_keeps h)
    (IsEnough-scaled second n z n_keeps k)

-- the combination of two lines that hold at a point holds there
pub LineHolds-combined : (m n g : ℤ) (s t line : LineParts) (p : Point) → KeepsEnough s.relation m → KeepsEnough t.relation n → pos 0 <ℤ g
    → IsCombined m n g s t line → LineHolds s p → LineHolds t p → LineHolds line p
LineHolds-combined m n g s t line p m_keeps n_keeps g_above is s_holds t_holds = record {
  enough = λ inside.
      let both : AreCodesIn (in_both s.sets t.sets) (codes_at s.shape p) =
      subst (λ (shape : List Domain). AreCodesIn (in_both s.sets t.sets) (codes_at shape p)) is.shape
      (subst (λ (sets : List ℕ). AreCodesIn sets (codes_at line.shape p)) is.sets inside) in
      let (in_s, in_t) = meets-inside s.sets t.sets (codes_at s.shape p) both in
      let sum = IsEnough-sum s.relation t.relation m n (amount s p) (amount t p) m_keeps n_keeps (s_holds.enough in_s)
      (t_holds.enough (subst (λ (shape : List Domain). AreCodesIn t.sets (codes_at shape p)) (sym is.same) in_t)) in
      subst (λ (r : Relation). IsEnough r (amount line p)) (sym is.relation)
      (IsEnough_cancel (joined s.relation t.relation) (amount line p) g g_above (subst (λ (z : ℤ). IsEnough (joined s.relation t.relation) z)
      (sym (amount-combined m n g s t line p is) ∙ comm g (amount line p)) sum));
}
