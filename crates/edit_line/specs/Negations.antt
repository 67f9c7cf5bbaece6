use Rattle.std.specs.Prelude.{ℕ, suc, pos, negsuc, ◌==◌, List, [], ◌∷◌, map, bit_xor, if◌then◌else◌, slice_set}
use lib.IntN.{neg_ℤ}
use Rattle.edit_line.specs.Lines.{LineParts, parts_of}
use Rattle.edit_line.specs.declared.relation.Relation.{Relation}
use Rattle.edit_line.specs.declared.relation.Relation.TheVariants.{Above, AtLeast, Equal}
use Rattle.edit_line.specs.Shapes.{Domain, number_fields, whole_sets}

-- the line -1 >= 0 where each code is in its set, so that no point has its codes there
abbrev pub never : List Domain → List ℕ → LineParts
never shape sets = parts_of shape sets (map (λ f. pos 0) (number_fields shape)) (negsuc 0) AtLeast

-- what the negative of a sum has to be where the sum is not as the relation asks; of an equality it may be above or below 0, so it stays
abbrev pub contrary_relation : Relation → Relation
contrary_relation AtLeast = Above
contrary_relation Above = AtLeast
contrary_relation Equal = Equal

-- the negative of the line's sum is above 0, or at least 0 where the line's is to be above 0, whatever the codes are
abbrev pub contrary : LineParts → LineParts
contrary line = parts_of line.shape (whole_sets line.shape) (map neg_ℤ line.factors) (neg_ℤ line.constant) (contrary_relation line.relation)

-- for each set that is not whole, from a place on, the line that the field there has no code outside it
abbrev pub never_outside : List Domain → ℕ → List ℕ → List ℕ → List LineParts
never_outside shape place (set ∷ sets) (whole ∷ wholes) =
    if set == whole
    then never_outside shape (suc place) sets wholes
    else never shape (slice_set (whole_sets shape) place (bit_xor whole set)) ∷ never_outside shape (suc place) sets wholes
never_outside shape place _ _ = []

-- the negation of a line that is no equality, as lines: its linear part is false, and each code is in its set
abbrev pub negation_of : LineParts → List LineParts
negation_of line = contrary line ∷ never_outside line.shape 0 line.sets (whole_sets line.shape)
