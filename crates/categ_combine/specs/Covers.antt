use Rattle.std.specs.Prelude.{◌≡◌, ℕ, ◌+◌, ◌*◌, ◌&&◌, not, Bool, List, [], ◌∷◌, ◌++◌, if◌then◌else◌, length, map, nat_eq}
use Rattle.std.specs.Prelude.{slice_index_or, slice_set}
use Rattle.std.specs.List.{filter, flat_map, fold}
use Rattle.edit_line.specs.Boxes.{box_of}
use Rattle.edit_line.specs.Sets.{none_is_empty}
use Rattle.edit_line.specs.Shapes.{Domain, whole_sets}
use Rattle.categ_combine.specs.BoxLists.{reduce_boxes, reduce_from, sets_of}
use Rattle.edit_line.specs.CodeFields.{codes_of, has_code_at, place_of, whole_of}
use Rattle.edit_line.specs.Combinations.{in_both}
use Rattle.categ_combine.specs.Each.{each_from}
use Rattle.categ_combine.specs.declared.box_from.BoxFrom.{BoxFrom}
use Rattle.categ_combine.specs.declared.box_from.BoxOrigin.{BoxOrigin}
use Rattle.categ_combine.specs.declared.box_from.BoxOrigin.TheVariants.{Cover, Unchanged}

-- two boxes' intersection on the other fields, and the whole set at the place
abbrev pub meets_but : ℕ → ℕ → List ℕ → List ℕ → List ℕ
meets_but place whole first second = slice_set (in_both first second) place whole

-- whether the box is whole at the place
abbrev pub is_whole_at : ℕ → ℕ → List ℕ → Bool
is_whole_at place whole box = nat_eq (slice_index_or box place 0) whole

-- whether the box takes part for the code: it is not whole at the place, and has the code there
abbrev pub takes_part : ℕ → ℕ → ℕ → List ℕ → Bool
takes_part place whole code box = not (is_whole_at place whole box) && has_code_at place code box

-- the boxes that take part for the code
abbrev pub parts_for : ℕ → ℕ → ℕ → List (List ℕ) → List (List ℕ)
parts_for place whole code boxes = filter (takes_part place whole code) boxes

-- what a box has in common with each of these on the other fields, as far as no set of it is empty
abbrev pub joined_with : ℕ → ℕ → List (List ℕ) → List ℕ → List (List ℕ)
joined_with place whole boxes p = filter none_is_empty (map (λ b. meets_but place whole p b) boxes)

-- the covers of the codes so far and of one more: their intersections with the boxes that have it, as far as they are not empty
abbrev pub with_code : ℕ → ℕ → List (List ℕ) → List (List ℕ) → ℕ → List (List ℕ)
with_code place whole boxes covers code = reduce_boxes (flat_map (joined_with place whole (parts_for place whole code boxes)) covers)

-- the covers of all codes: of no code yet there is the box of all codes
abbrev pub covers_of : List Domain → List (List ℕ) → ℕ → List ℕ → List (List ℕ)
covers_of shape boxes f codes = fold (with_code (place_of shape f) (whole_of shape f) boxes) (whole_sets shape ∷ []) codes

-- elimination of a categorical field: the boxes that are whole there, and the covers of the others (the edits that
-- they imply, Fellegi and Holt 1976)
abbrev pub covered : List Domain → List (List ℕ) → ℕ → List (List ℕ)
covered shape boxes f =
    reduce_boxes (filter (is_whole_at (place_of shape f) (whole_of shape f)) boxes ++ covers_of shape boxes f (codes_of shape f))

-- the pairs of a cover and a box that are looked at for the codes
abbrev pub code_pairs : ℕ → ℕ → List (List ℕ) → List (List ℕ) → List ℕ → ℕ
code_pairs place whole boxes covers [] = 0
code_pairs place whole boxes covers (code ∷ codes) =
    length covers * length (parts_for place whole code boxes) + code_pairs place whole boxes (with_code place whole boxes covers code) codes

-- how many pairs of a cover and a box the elimination of the field looks at
abbrev pub cover_count : List Domain → List (List ℕ) → ℕ → ℕ
cover_count shape boxes f = code_pairs (place_of shape f) (whole_of shape f) boxes (whole_sets shape ∷ []) (codes_of shape f)

-- ---- covers of boxes with their origins

-- the box with these sets and this origin
abbrev pub from_of : List Domain → List ℕ → BoxOrigin → BoxFrom
from_of shape sets origin = record { code_box = box_of shape sets; origin = origin }

-- the parts of a cover; another box has none
abbrev pub cover_parts : BoxOrigin → List ℕ
cover_parts (Cover parts) = parts
cover_parts _ = []

-- the box at a place, unchanged, where it is whole at the field
abbrev pub unchanged_one : ℕ → ℕ → ℕ → BoxFrom → List BoxFrom
unchanged_one place whole i b =
    if is_whole_at place whole b.code_box.sets then from_of b.code_box.shape b.code_box.sets (Unchanged i) ∷ [] else []

-- the cover with the box at a place as its next part, where these sets are what is left
abbrev pub next_cover : BoxFrom → List ℕ → ℕ → BoxFrom
next_cover p sets i = from_of p.code_box.shape sets (Cover (cover_parts p.origin ++ i ∷ []))

-- the cover with the box at a place as its next part, where that leaves codes
abbrev pub joined : ℕ → ℕ → BoxFrom → ℕ → BoxFrom → List BoxFrom
joined place whole p i b =
    let sets = meets_but place whole p.code_box.sets b.code_box.sets in
    if none_is_empty sets then next_cover p sets i ∷ [] else []

-- the cover with the box at a place, where that takes part for the code
abbrev pub joined_for : ℕ → ℕ → ℕ → BoxFrom → ℕ → BoxFrom → List BoxFrom
joined_for place whole code p i b = if takes_part place whole code b.code_box.sets then joined place whole p i b else []

-- the cover with each box that takes part for the code
abbrev pub row_of : ℕ → ℕ → ℕ → List BoxFrom → BoxFrom → List BoxFrom
row_of place whole code boxes p = each_from (joined_for place whole code p) 0 boxes

-- the covers of the codes so far and of one more
abbrev pub with_code_from : ℕ → ℕ → List BoxFrom → List BoxFrom → ℕ → List BoxFrom
with_code_from place whole boxes covers code = reduce_from (flat_map (row_of place whole code boxes) covers)

-- the box of all codes, the cover of no code
abbrev pub first_cover : List Domain → BoxFrom
first_cover shape = from_of shape (whole_sets shape) (Cover [])

-- the covers of these codes, with their origins
abbrev pub covers_from : List Domain → List BoxFrom → ℕ → List ℕ → List BoxFrom
covers_from shape boxes f codes = fold (with_code_from (place_of shape f) (whole_of shape f) boxes) (first_cover shape ∷ []) codes

-- elimination of a categorical field, with origins
abbrev pub covered_from : List Domain → List BoxFrom → ℕ → List BoxFrom
covered_from shape boxes f =
    reduce_from (each_from (unchanged_one (place_of shape f) (whole_of shape f)) 0 boxes ++ covers_from shape boxes f (codes_of shape f))

-- what the elimination of the field leaves, and the pairs that it looks at
abbrev pub IsElimination : List Domain → List BoxFrom → ℕ → List BoxFrom → ℕ → Type 0
IsElimination shape boxes f left pairs = (left ≡ covered_from shape boxes f) × (pairs ≡ cover_count shape (sets_of boxes) f)
