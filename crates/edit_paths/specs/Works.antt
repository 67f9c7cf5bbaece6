use Rattle.std.specs.Prelude.{ℕ, ◌+◌, Bool, List, if◌then◌else◌}
use Rattle.std.specs.List.{sum_by}
use Rattle.edit_model.specs.FieldSets.{has_field}
use Rattle.edit_line.specs.Shapes.{number_fields, shape_of}
use Rattle.linear_elim.specs.Steps.{pairs_count}
use Rattle.categ_combine.specs.BoxLists.{sets_of}
use Rattle.categ_combine.specs.Covers.{cover_count}
use Rattle.edit_paths.specs.Cases.{SearchCase}
use Rattle.edit_paths.specs.Paths.{before_last, last_field, last_letter}
use Rattle.edit_paths.specs.States.{boxes_along, lines_along}

-- the pairs of lines, or of covers and boxes, that are combined where the path changes the field next
abbrev pub pairs_next : SearchCase → List Bool → ℕ → ℕ
pairs_next c path f =
    if has_field (number_fields (shape_of c.survey.fields)) f
    then pairs_count (lines_along c path) f
    else cover_count (shape_of c.survey.fields) (sets_of (boxes_along c path)) f

-- the work of a path: 1, and, where its last letter says changed, the pairs that this combines
abbrev pub work_of : SearchCase → List Bool → ℕ
work_of c path = if last_letter path then 1 + pairs_next c (before_last path) (last_field c path) else 1

-- the work of several paths
abbrev pub work_of_all : SearchCase → List (List Bool) → ℕ
work_of_all c paths = sum_by (work_of c) paths
