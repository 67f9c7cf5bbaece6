use Rattle.std.specs.Prelude.{◌≡◌, ◌≤◌, length}
use Rattle.std.specs.Arc.{arc_value}
use Rattle.foundation.specs.Limits.{most_fields}
use Rattle.edit_line.specs.EditSets.{EditsParts}
use Rattle.edit_line.specs.Shapes.{shape_of, whole_sets}
use Rattle.edit_paths.specs.Cases.{SearchCase, IsCase, case_of}
use Rattle.path_walk.specs.declared.problem.Problem.{Problem}

-- the edits of the problem
abbrev pub edits_in : Problem → EditsParts
edits_in p = arc_value p.edits.now

-- the case of the problem's record
abbrev pub case_in : Problem → SearchCase
case_in p = case_of p.survey.now (edits_in p) p.row.now

-- the parts of the problem fit each other
pub record IsProblem (p : Problem) : Type 0 where
  pub case : IsCase (case_in p)
  pub shape : (edits_in p).shape ≡ shape_of p.survey.now.fields
  pub few : length p.survey.now.fields ≤ most_fields
  pub wholes : p.wholes.now ≡ whole_sets (shape_of p.survey.now.fields)
