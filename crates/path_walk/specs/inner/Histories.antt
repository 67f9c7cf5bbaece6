use Rattle.std.specs.Prelude.{◌≡◌, ℕ, Bool, List, Result, Ok, Err, if◌then◌else◌}
use Rattle.edit_model.specs.RowPoints.{code_in}
use Rattle.edit_model.specs.Rows.{value_of}
use Rattle.edit_line.specs.Shapes.{shape_of}
use Rattle.edit_line.specs.declared.derived.Derived.{Derived}
use Rattle.linear_elim.specs.Systems.{SystemOverflow}
use Rattle.categ_combine.specs.Covers.{covered_from}
use Rattle.categ_combine.specs.Fixing.{fixed_from}
use Rattle.categ_combine.specs.declared.box_from.BoxFrom.{BoxFrom}
use Rattle.edit_paths.specs.Cases.{SearchCase}
use Rattle.edit_paths.specs.Histories.{History, with_lines}
use Rattle.edit_paths.specs.Levels.{history_of}
use Rattle.edit_paths.specs.PathHistories.{box_history, line_history}
use Rattle.edit_paths.specs.declared.levels.Level.{Level}
use Rattle.edit_paths.specs.declared.state.PathState.{PathState}
use Rattle.edit_paths.specs.declared.state.PathState.TheVariants.{ClosedBox, ClosedLine}
use Rattle.path_walk.specs.Bases.{path_system}

-- the history, and the lines of the next system, where no number leaves the range
abbrev pub with_system : History → Result (List Derived) SystemOverflow → History
with_system before (Ok lines) = with_lines before lines
with_system before (Err overflow) = before

-- the boxes after one more categorical field, combined where it is changed and else fixed at the record's code
abbrev pub boxes_by : SearchCase → Bool → List BoxFrom → ℕ → List BoxFrom
boxes_by c changed boxes f =
    if changed
    then covered_from (shape_of c.survey.fields) boxes f
    else fixed_from (shape_of c.survey.fields) boxes f (code_in (value_of c.row f))

-- the lines of the path's system are the next list, where no number leaves the range
abbrev pub AddsSystem : SearchCase → List Bool → List Level → List Level → Type 0
AddsSystem c path before after = history_of after ≡ with_system (history_of before) (path_system c path)

-- the lists lead to what closes the path, where this is its state
pub record LeadTo (c : SearchCase) (path : List Bool) (state : PathState) (levels : List Level) : Type 0 where
  pub line : (i : ℕ) → state ≡ ClosedLine i → history_of levels ≡ line_history c path
  pub box : (i : ℕ) → state ≡ ClosedBox i → history_of levels ≡ box_history c path
