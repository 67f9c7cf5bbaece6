use Rattle.std.proofs.Common.{◌≡◌, ◌==◌, inl, inr, bit_xor, ℕ, suc, Bool, true, false, if◌then◌else◌, List, [], ◌∷◌, slice_set, ap}
use Rattle.edit_line.specs.Lines.{LineParts}
use Rattle.edit_line.specs.Negations.{negation_of, never, never_outside}
use Rattle.edit_line.specs.Reductions.{IsIn}
use Rattle.edit_line.specs.Shapes.{Domain, whole_sets}

-- a negation is over the line's fields
pub negation-over : (line m : LineParts) → IsIn m (negation_of line) → m.shape ≡ line.shape
negation-over line m (inl is) = ap (λ (l : LineParts). l.shape) is
negation-over line m (inr there) = outside line.shape 0 line.sets (whole_sets line.shape) m there
  where
    outside : (shape : List Domain) (place : ℕ) (sets wholes : List ℕ) (m : LineParts) → IsIn m (never_outside shape place sets wholes) → m.shape ≡ shape
    outside shape place [] wholes m there = absurd there
    outside shape place (s ∷ sets) [] m there = absurd there
    outside shape place (s ∷ sets) (w ∷ wholes) m there = by (s == w) there (outside shape (suc place) sets wholes m)
      where
        by : (b : Bool) → IsIn m (if b then never_outside shape (suc place) sets wholes else never shape (slice_set (whole_sets shape) place (bit_xor w s))
            ∷ never_outside shape (suc place) sets wholes)
            → (IsIn m (never_outside shape (suc place) sets wholes) → m.shape ≡ shape) → m.shape ≡ shape
        by true there rest = rest there
        by false (inl is) rest = ap (λ (l : LineParts). l.shape) is
        by false (inr there) rest = rest there
