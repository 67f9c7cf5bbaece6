use Rattle.std.specs.Prelude.{◌≡◌, ℕ, ◌<◌, List, length, slice_index_or}
use Rattle.edit_line.specs.Shapes.{Domain, whole_sets}

-- a categorical field's place, and the set of all its codes
pub record IsSpot (shape : List Domain) (place whole : ℕ) : Type 0 where
  pub within : place < length (whole_sets shape)
  pub whole_is : whole ≡ slice_index_or (whole_sets shape) place 0
  pub some : 0 < whole
