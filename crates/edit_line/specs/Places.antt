use Rattle.std.specs.Prelude.{ℕ, zero, suc, List, [], ◌∷◌}
use Rattle.edit_line.specs.declared.place.Place.{Place}
use Rattle.edit_line.specs.declared.place.Place.TheVariants.{Field, Constant}

-- the name of a place among a line's factors, which stand beside these fields, and its constant, which comes last
abbrev pub place_named : List ℕ → ℕ → Place
place_named [] i = Constant
place_named (f ∷ fields) zero = Field f
place_named (f ∷ fields) (suc i) = place_named fields i
