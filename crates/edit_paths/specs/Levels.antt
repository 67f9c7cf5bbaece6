use Rattle.std.specs.Prelude.{List, [], ◌∷◌, map}
use Rattle.std.specs.Arc.{arc_value}
use Rattle.std.specs.List.{fold}
use Rattle.edit_line.specs.declared.derived.Derived.{Derived}
use Rattle.linear_elim.specs.Helds.{system_held}
use Rattle.categ_combine.specs.declared.box_from.BoxFrom.{BoxFrom}
use Rattle.edit_paths.specs.Histories.{History, box_by, line_by}
use Rattle.edit_paths.specs.declared.levels.Level.{Level}
use Rattle.edit_paths.specs.declared.levels.Level.TheVariants.{Boxes, Lines}
use Rattle.edit_paths.specs.declared.making.Making.{Making}

-- How the elements of derived lists were made, as their origins say.

-- how the elements of the list were made
abbrev pub makings_of : Level → List Making
makings_of (Lines held) = map (λ (d : Derived). line_by d.origin) (system_held (arc_value held)).lines
makings_of (Boxes field boxes) = map (λ (b : BoxFrom). box_by field b.origin) (arc_value boxes)

-- the history of the lists, each derived from the one before it
abbrev pub history_of : List Level → History
history_of levels = fold (λ before level. makings_of level ∷ before) [] levels
