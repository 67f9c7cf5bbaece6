use Rattle.std.specs.Prelude.{ℕ, Bool, List, [], ◌∷◌, Result, Ok, Err}
use Rattle.edit_line.specs.EditSets.{base_lines}
use Rattle.edit_line.specs.Reductions.{reduce_derived}
use Rattle.edit_line.specs.declared.derived.Derived.{Derived}
use Rattle.linear_elim.specs.Steps.{StepOverflow, step_result}
use Rattle.categ_combine.specs.declared.box_from.BoxFrom.{BoxFrom}
use Rattle.edit_paths.specs.Cases.{SearchCase}
use Rattle.edit_paths.specs.Histories.{History, with_boxes, with_lines}
use Rattle.edit_paths.specs.Paths.{changed_numbers, treated_codes}
use Rattle.edit_paths.specs.States.{boxes_after, first_boxes}

-- How the lines and the boxes of a path were made.

-- the next lists, where there is a next list of lines
abbrev pub and_next : History → Result (List Derived) StepOverflow → (List Derived → History) → History
and_next history (Ok lines) next = next lines
and_next history (Err overflow) next = history

-- the lists of lines, from these on, with one field less each
abbrev pub lines_reached : History → List Derived → List ℕ → History
lines_reached before lines [] = with_lines before lines
lines_reached before lines (f ∷ fields) =
    and_next (with_lines before lines) (step_result lines f) (λ next. lines_reached (with_lines before lines) next fields)

-- the lists of lines that lead to the path's system
abbrev pub line_history : SearchCase → List Bool → History
line_history c path = lines_reached [] (reduce_derived (base_lines c.edits)) (changed_numbers c path)

-- the lists of boxes, from these on, with one field more treated each
abbrev pub boxes_reached : SearchCase → List Bool → History → List BoxFrom → List ℕ → History
boxes_reached c path history boxes [] = history
boxes_reached c path history boxes (f ∷ fields) =
    let next = boxes_after c path boxes f in boxes_reached c path (with_boxes history f next) next fields

-- the lists of lines and of boxes that lead to the path's boxes
abbrev pub box_history : SearchCase → List Bool → History
box_history c path =
    boxes_reached c path (with_boxes (line_history c path) 0 (first_boxes c path)) (first_boxes c path) (treated_codes c path)
