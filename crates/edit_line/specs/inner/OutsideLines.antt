-- The lines that keep the codes inside the sets of a line.
use Rattle.std.specs.Prelude.{ℕ, ◌==◌, List, [], ◌∷◌, bit_xor, if◌then◌else◌, slice_set}
use Rattle.edit_line.specs.Lines.{LineParts}
use Rattle.edit_line.specs.Negations.{never}
use Rattle.edit_line.specs.Shapes.{Domain, whole_sets}

-- the line that the field at a place has no code outside the set; none where the set is whole
abbrev pub outside_line : List Domain → ℕ → ℕ → ℕ → List LineParts
outside_line shape place set whole =
    if set == whole then [] else never shape (slice_set (whole_sets shape) place (bit_xor whole set)) ∷ []
