use Rattle.std.specs.Prelude.{◌≡◌, ℕ, ◌<◌, ◌≤◌, true, false}
use Rattle.edit_model.specs.FieldSets.{has_number}

-- the field is past all fields of the set, kept as bits
abbrev pub IsPast : ℕ → ℕ → Type 0
IsPast set field = (f : ℕ) → field ≤ f → has_number set f ≡ false

-- the field is the last one of the set
pub record IsLast (set field : ℕ) : Type 0 where
  pub own : has_number set field ≡ true
  pub past : (f : ℕ) → field < f → has_number set f ≡ false

-- the first fields of the set: those below some number
pub record IsFirstOf (first set : ℕ) : Type 0 where
  pub bound : ℕ
  pub below : (f : ℕ) → f < bound → has_number first f ≡ has_number set f
  pub none : IsPast first bound
