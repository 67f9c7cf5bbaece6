use Rattle.std.specs.Prelude.{ℕ, Bool, List, nat_eq}
use Rattle.std.specs.Cmp.Lexicographic.{pointwise}
use Rattle.edit_line.specs.Sets.{AreSets}
use Rattle.edit_line.specs.Shapes.{Domain, whole_sets}

-- a box of codes: a set for each categorical field, in declared order
pub record BoxParts : Type 0 where
  pub shape : List Domain
  pub sets : List ℕ

-- the box of these parts
abbrev pub box_of : List Domain → List ℕ → BoxParts
box_of shape sets = record { shape = shape; sets = sets }

-- each set has a code, and none but its field's
abbrev pub IsBox : BoxParts → Type 0
IsBox box = AreSets box.sets (whole_sets box.shape)

-- whether the sets have all codes of their fields
abbrev pub are_whole : List Domain → List ℕ → Bool
are_whole shape sets = pointwise nat_eq sets (whole_sets shape)
