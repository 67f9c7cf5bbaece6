-- The last fields among the first ones.
use Rattle.std.specs.Prelude.{◌≡◌, ◌↔◌, ◌<◌, ℕ, true, List, IsSomeAnd, slice_get}
use Rattle.edit_model.specs.FieldSets.{has_number}
use Rattle.edit_model.specs.declared.field.Field.{Field}
use Rattle.panel_files.specs.LastFields.{IsLastField}

-- the set has just the last fields among the first n fields
abbrev pub AreLastBelow : List Field → ℕ → ℕ → Type 0
AreLastBelow fields n set = (f : ℕ) → has_number set f ≡ true ↔ ((f < n) × IsSomeAnd (slice_get fields f) IsLastField)
