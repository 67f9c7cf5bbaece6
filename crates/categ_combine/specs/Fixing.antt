use Rattle.std.specs.Prelude.{ℕ, List, [], ◌∷◌, if◌then◌else◌, map, slice_set}
use Rattle.std.specs.List.{filter}
use Rattle.edit_line.specs.Shapes.{Domain}
use Rattle.categ_combine.specs.BoxLists.{reduce_boxes, reduce_from}
use Rattle.edit_line.specs.CodeFields.{has_code_at, place_of, whole_at, whole_of}
use Rattle.categ_combine.specs.Covers.{from_of, is_whole_at}
use Rattle.categ_combine.specs.Each.{each_from}
use Rattle.categ_combine.specs.declared.box_from.BoxFrom.{BoxFrom}
use Rattle.categ_combine.specs.declared.box_from.BoxOrigin.{BoxOrigin}
use Rattle.categ_combine.specs.declared.box_from.BoxOrigin.TheVariants.{Fixed, Unchanged}

-- the boxes that the code leaves at a kept field, made whole there
abbrev pub fixed : List Domain → List (List ℕ) → ℕ → ℕ → List (List ℕ)
fixed shape boxes f code = reduce_boxes (map (whole_at shape f) (filter (has_code_at (place_of shape f) code) boxes))

-- ---- fixed boxes with their origins

-- the origin of the box at a place, made whole at the field: it is unchanged where it was whole
abbrev pub fix_origin : ℕ → ℕ → ℕ → List ℕ → BoxOrigin
fix_origin place whole i sets = if is_whole_at place whole sets then Unchanged i else Fixed i

-- the box at a place, made whole at the field where it has the code there
abbrev pub fixed_one : ℕ → ℕ → ℕ → ℕ → BoxFrom → List BoxFrom
fixed_one place whole code i b =
    if has_code_at place code b.code_box.sets
    then from_of b.code_box.shape (slice_set b.code_box.sets place whole) (fix_origin place whole i b.code_box.sets) ∷ []
    else []

-- the boxes that the code leaves, with origins
abbrev pub fixed_from : List Domain → List BoxFrom → ℕ → ℕ → List BoxFrom
fixed_from shape boxes f code = reduce_from (each_from (fixed_one (place_of shape f) (whole_of shape f) code) 0 boxes)
