use Rattle.std.specs.Prelude.{◌≡◌, ◌≤◌, length}
use Rattle.std.specs.Arc.{arc_value}
use Rattle.edit_model.specs.Rows.{IsRow}
use Rattle.edit_line.specs.EditSets.{EditsParts}
use Rattle.edit_line.specs.Shapes.{shape_of}
use Rattle.edit_paths.specs.Cases.{SearchCase, case_of}
use Rattle.prefix_walk.specs.declared.walk.Walk.{Walk}

-- the edits of the walk
abbrev pub walk_edits : Walk → EditsParts
walk_edits w = arc_value w.edits.now

-- the case of the walk's record
abbrev pub walk_case : Walk → SearchCase
walk_case w = case_of w.survey.now (walk_edits w) w.row.now

-- the record is one of the survey, the edits are over its fields, and the path says something of these alone
pub record IsWalk (w : Walk) : Type 0 where
  pub row : IsRow w.survey.now.fields w.row.now
  pub shape : (walk_edits w).shape ≡ shape_of w.survey.now.fields
  pub fit : length w.path.now ≤ length w.survey.now.fields
  pub within : w.spent ≤ w.budget
