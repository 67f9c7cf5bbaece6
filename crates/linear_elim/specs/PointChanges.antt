use Rattle.std.specs.Prelude.{◌≡◌, ◌≢◌, ◌↔◌, ℕ, List, All, ◌*ℤ◌}
use Rattle.edit_model.specs.Points.{Point}
use Rattle.edit_line.specs.Lines.{AllHold, LineParts}
use Rattle.edit_line.specs.Reductions.{lines_of}
use Rattle.edit_line.specs.declared.derived.Derived.{Derived}

-- q is p with another value, or the same, at the field
pub record DiffersOnlyAt (f : ℕ) (p q : Point) : Type 0 where
  pub codes : (i : ℕ) → i ≢ f → q.code i ≡ p.code i
  pub numbers : (i : ℕ) → i ≢ f → q.numerator i *ℤ p.denominator ≡ p.numerator i *ℤ q.denominator

-- q is p with other values, or the same, at these fields
pub record DiffersOnlyIn (fields : List ℕ) (p q : Point) : Type 0 where
  pub codes : (i : ℕ) → All (λ f. i ≢ f) fields → q.code i ≡ p.code i
  pub numbers : (i : ℕ) → All (λ f. i ≢ f) fields → q.numerator i *ℤ p.denominator ≡ p.numerator i *ℤ q.denominator

-- some value at the field, in place of the point's own, makes all lines hold
abbrev pub CanHoldAt : List LineParts → ℕ → Point → Type 0
CanHoldAt lines f p = (q : Point) × DiffersOnlyAt f p q × AllHold lines q

-- at each point the lines that are left hold exactly where some value at the field, in place of the point's own, makes all lines hold
abbrev pub LiftedAt : ℕ → List Derived → List Derived → Type 0
LiftedAt f lines left = (p : Point) → AllHold (lines_of left) p ↔ CanHoldAt (lines_of lines) f p

-- some values at these fields, in place of the point's own, make all lines hold
abbrev pub CanHoldIn : List LineParts → List ℕ → Point → Type 0
CanHoldIn lines fields p = (q : Point) × DiffersOnlyIn fields p q × AllHold lines q
