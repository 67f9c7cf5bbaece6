-- The covers at a spot.
use Rattle.std.specs.Prelude.{ℕ, List, [], ◌∷◌}
use Rattle.std.specs.List.{fold}
use Rattle.edit_line.specs.CodeFields.{codes_up}
use Rattle.edit_line.specs.Domains.{domains}
use Rattle.edit_line.specs.Shapes.{whole_sets}
use Rattle.categ_combine.specs.BoxLists.{sets_of}
use Rattle.categ_combine.specs.Covers.{code_pairs, first_cover, with_code_from}
use Rattle.categ_combine.specs.declared.box_from.BoxFrom.{BoxFrom}
use Rattle.categ_combine.specs.declared.spot.Spot.{Spot}

-- the covers of this number of first codes
abbrev pub covers_at : Spot → List BoxFrom → ℕ → List BoxFrom
covers_at spot boxes size = fold (with_code_from spot.place spot.whole boxes) (first_cover (domains spot.shape) ∷ []) (codes_up 0 size)

-- the pairs of a cover and a box that are looked at for them
abbrev pub cover_pairs : Spot → List BoxFrom → ℕ → ℕ
cover_pairs spot boxes size = code_pairs spot.place spot.whole (sets_of boxes) (whole_sets (domains spot.shape) ∷ []) (codes_up 0 size)
