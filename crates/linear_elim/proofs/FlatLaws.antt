use Rattle.std.proofs.Common.{◌≡◌, ◌⊎◌, inl, inr, ℕ, ◌==◌, ◌||◌, Bool, true, false, List, [], ◌∷◌, ℤ, pos, ◌<ℤ◌, ◌+ℤ◌, ◌*ℤ◌, refl, sym, ap, ◌∙◌, subst, arith}
use Rattle.std.specs.List.{fold}
use Rattle.std.proofs.lemmas.Bool.Decides.{Decides-eqb}
use Rattle.fraction128.proofs.Signs.{same_cancel}
use Rattle.fraction128.proofs.Whole.{comm, parts, ring, same_dif}
use Rattle.edit_line.specs.Lines.{HaveShape, LineParts, factor}
use Rattle.edit_line.specs.Reductions.{IsIn, reduce}
use Rattle.edit_line.specs.Shapes.{Domain, has_field}
use Rattle.edit_line.proofs.Members.{all-in, in-all}
use Rattle.edit_line.proofs.ReductionLaws.{HaveShape-reduce, reduce-from}
use Rattle.linear_elim.specs.Combinations.{combination}
use Rattle.linear_elim.specs.Parts.{AreFlat}
use Rattle.linear_elim.specs.Steps.{eliminated, step}
use Rattle.linear_elim.specs.Systems.{system}
use Rattle.linear_elim.proofs.PairLaws.{combination-is, factor-combined}
use Rattle.linear_elim.proofs.StepLaws.{HaveShape-step, IsMade, from-eliminated, step-flat}

-- The fields that are eliminated stand in no line of a system.

none_of_both : (g k m n a b : ℤ) → pos 0 <ℤ g → g *ℤ k ≡ m *ℤ a +ℤ n *ℤ b → a ≡ pos 0 → b ≡ pos 0 → k ≡ pos 0
none_of_both g k m n a b above is a_none b_none =
    same_cancel k (pos 0) g above (comm k g ∙ is ∙ ap (λ (z : ℤ). m *ℤ z +ℤ n *ℤ b) a_none ∙ ap (λ (z : ℤ). m *ℤ pos 0 +ℤ n *ℤ z) b_none ∙ nothing m n g)
  where
    nothing : (m n g : ℤ) → m *ℤ pos 0 +ℤ n *ℤ pos 0 ≡ pos 0 *ℤ g
    nothing m n g = rw (parts m, parts n, parts g) (simp ring (same_dif _ _ _ _ (omega arith)))

module _ (shape : List Domain) where
  -- a step keeps other fields out
  step-keeps_flat : (lines : List LineParts) (f i : ℕ) → HaveShape shape lines → AreFlat i lines → AreFlat i (step lines f)
  step-keeps_flat lines f i over flat =
      all-in (λ line. factor line i ≡ pos 0) (step lines f)
      (λ line there. at line (from-eliminated lines f shape over line (reduce-from line (eliminated lines f) there)))
    where
      at : (line : LineParts) → (IsIn line lines × (factor line f ≡ pos 0)) ⊎ IsMade lines f line → factor line i ≡ pos 0
      at line (inl kept) = in-all (λ l. factor l i ≡ pos 0) line lines flat kept.0
      at line (inr (s, t, pair, same)) =
          let s_over = in-all (λ l. l.shape ≡ shape) s lines (λ k d below. (over k d below).same) pair.first in
          let t_over = in-all (λ l. l.shape ≡ shape) t lines (λ k d below. (over k d below).same) pair.second in
          let sum = combination-is s t f (t_over ∙ sym s_over) pair.allowed in
          ap (λ (l : LineParts). factor l i) same
          ∙ none_of_both _ _ _ _ _ _ sum.g_above (factor-combined _ _ _ s t (combination s t f) i sum.combined)
          (in-all (λ l. factor l i ≡ pos 0) s lines flat pair.first) (in-all (λ l. factor l i ≡ pos 0) t lines flat pair.second)

  fold-keeps_flat : (lines : List LineParts) (fields : List ℕ) (i : ℕ) → HaveShape shape lines → AreFlat i lines → AreFlat i (fold step lines fields)
  fold-keeps_flat lines [] i over flat = flat
  fold-keeps_flat lines (f ∷ fields) i over flat =
      fold-keeps_flat (step lines f) fields i (HaveShape-step shape lines f over) (step-keeps_flat lines f i over flat)

  -- and keeps out those of the fold
  pub fold-flat : (lines : List LineParts) (fields : List ℕ) (i : ℕ) → HaveShape shape lines → has_field fields i ≡ true → AreFlat i (fold step lines fields)
  fold-flat lines [] i over there = absurd (cc)
  fold-flat lines (f ∷ fields) i over there = by (f == i) refl there (λ h. fold-flat (step lines f) fields i (HaveShape-step shape lines f over) h)
    where
      by : (b : Bool) → (f == i) ≡ b → (b || has_field fields i) ≡ true → (has_field fields i ≡ true → AreFlat i (fold step (step lines f) fields))
          → AreFlat i (fold step (step lines f) fields)
      by true e h rest =
          fold-keeps_flat (step lines f) fields i (HaveShape-step shape lines f over)
          (subst (λ (j : ℕ). AreFlat j (step lines f)) ((Decides-eqb f i).0 e) (step-flat shape lines f over))
      by false e h rest = rest h

  -- the fields that are eliminated stand in no line of the system
  pub system-flat : (lines : List LineParts) (fields : List ℕ) (i : ℕ) → HaveShape shape lines → has_field fields i ≡ true → AreFlat i (system lines fields)
  system-flat lines fields i over there = fold-flat (reduce lines) fields i (HaveShape-reduce shape lines over) there
