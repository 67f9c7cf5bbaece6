-- The lists that lead to a path: the lines of systems and boxes, from which its closing steps come.
use Rattle.std.specs.Prelude.{◌≡◌, ◌++◌, ◌<◌, ◌≤◌, Bool, List, [], length}
use Rattle.std.specs.Arc.{arc_value}
use Rattle.std.specs.List.{fold}
use Rattle.categ_combine.specs.declared.box_from.BoxFrom.{BoxFrom}
use Rattle.edit_paths.specs.Cases.{SearchCase}
use Rattle.edit_paths.specs.Levels.{history_of}
use Rattle.edit_paths.specs.PathHistories.{box_history, line_history}
use Rattle.edit_paths.specs.Paths.{before_last, number_count}
use Rattle.edit_paths.specs.States.{boxes_along}
use Rattle.edit_paths.specs.declared.levels.Level.{Level}
use Rattle.edit_paths.specs.declared.levels.Level.TheVariants.{Boxes, Lines}

-- the boxes of a list, none of a list of lines
abbrev pub own_boxes : Level → List BoxFrom
own_boxes (Lines held) = []
own_boxes (Boxes field boxes) = arc_value boxes

-- the boxes of the last of the lists
abbrev pub boxes_in : List Level → List BoxFrom
boxes_in levels = fold (λ (before : List BoxFrom) level. own_boxes level) [] levels

-- the lists lead to the path's boxes, which are the last one
pub record HasBoxLists (c : SearchCase) (path : List Bool) (levels : List Level) : Type 0 where
  pub lists : history_of levels ≡ box_history c path
  pub along : boxes_in levels ≡ boxes_along c path

-- the lists lead to the path's system, or, where it says something of categorical fields, to its boxes
pub record HasLists (c : SearchCase) (path : List Bool) (levels : List Level) : Type 0 where
  pub lines : length path ≤ number_count c → history_of levels ≡ line_history c path
  pub boxes : number_count c < length path → HasBoxLists c path levels

-- the lists lead to what the path before the last letter has; there are none for the empty path
pub record HasListsBefore (c : SearchCase) (path : List Bool) (levels : List Level) : Type 0 where
  pub first : length path ≡ 0 → levels ≡ []
  pub later : 0 < length path → HasLists c (before_last path) levels

-- further lists stand behind the others
abbrev pub HasMore : List Level → List Level → Type 0
HasMore before after = (more : List Level) × (after ≡ before ++ more)
