use Rattle.std.specs.Prelude.{◌≡◌, ℕ, suc, ◌==◌, ◌&&◌, Bool, true, false, List, [], ◌∷◌, Option, Some, None, Result, Ok, Err, if◌then◌else◌, length, nat_lt}
use Rattle.std.specs.List.{fold, position}
use Rattle.edit_model.specs.RowPoints.{code_in}
use Rattle.edit_model.specs.Rows.{value_of}
use Rattle.edit_line.specs.Boxes.{are_whole}
use Rattle.edit_line.specs.Lines.{LineParts}
use Rattle.edit_line.specs.Shapes.{number_fields, shape_of}
use Rattle.edit_line.specs.Sums.{fails_at, stands_only}
use Rattle.edit_line.specs.declared.derived.Derived.{Derived}
use Rattle.linear_elim.specs.Steps.{StepOverflow}
use Rattle.linear_elim.specs.Systems.{SystemOverflow, system_of}
use Rattle.categ_combine.specs.Covers.{covered_from}
use Rattle.categ_combine.specs.FailingBoxes.{LineFault, failing_from}
use Rattle.categ_combine.specs.Fixing.{fixed_from}
use Rattle.categ_combine.specs.declared.box_from.BoxFrom.{BoxFrom}
use Rattle.bound_cert.specs.Paths.{changes, keeps, keeps_bad}
use Rattle.bound_cert.specs.declared.outcome.Event.{Event}
use Rattle.bound_cert.specs.declared.outcome.Event.TheVariants as event
use Rattle.edit_paths.specs.Cases.{SearchCase}
use Rattle.edit_paths.specs.PathStates.{is_closed}
use Rattle.edit_paths.specs.Paths.{changed_numbers, number_count, treated_codes}
use Rattle.edit_paths.specs.declared.state.PathState.{PathState}
use Rattle.edit_paths.specs.declared.state.PathState.TheVariants.{ClosedBad, ClosedBox, ClosedLine, Open, Overflows}

-- ---- the system and the boxes of a path

-- the elements, none where there is a fault
abbrev pub or_empty : {X F : Type 0} → Result (List X) F → List X
or_empty (Ok xs) = xs
or_empty (Err fault) = []

-- the system of the fields that the path changes, as far as no number leaves the range
abbrev pub lines_along : SearchCase → List Bool → List Derived
lines_along c path = or_empty (system_of c.edits (changed_numbers c path))

-- the record's boxes, from the lines that fail there
abbrev pub first_boxes : SearchCase → List Bool → List BoxFrom
first_boxes c path = or_empty (failing_from 0 (lines_along c path) c.row [])

-- the boxes after one more categorical field: combined where the path changes it, else fixed at the record's code
abbrev pub boxes_after : SearchCase → List Bool → List BoxFrom → ℕ → List BoxFrom
boxes_after c path boxes f =
    if changes c.survey.fields path f
    then covered_from (shape_of c.survey.fields) boxes f
    else fixed_from (shape_of c.survey.fields) boxes f (code_in (value_of c.row f))

-- the boxes after the categorical fields of which the path says something
abbrev pub boxes_along : SearchCase → List Bool → List BoxFrom
boxes_along c path = fold (boxes_after c path) (first_boxes c path) (treated_codes c path)

-- ---- whether a path is closed, and by what

-- whether the line asks something of the kept numbers alone: it is for all codes, and only kept fields stand in it
abbrev pub asks_kept : SearchCase → List Bool → LineParts → Bool
asks_kept c path line =
    are_whole (shape_of c.survey.fields) line.sets
    && stands_only (keeps c.survey.fields path) (number_fields line.shape) line.factors

-- what a tried line tells: it closes the path, or the next lines decide, or its sum leaves the range
abbrev pub closed_by : ℕ → Result Bool ℕ → PathState → PathState
closed_by i (Ok true) next = ClosedLine i
closed_by i (Ok false) next = next
closed_by i (Err f) next = Overflows (event.Test i f)

-- what the line at place i makes of the path, before the next lines: it is tried where it asks something of the kept numbers alone
abbrev pub tried_line : SearchCase → List Bool → ℕ → LineParts → PathState → PathState
tried_line c path i line next = if asks_kept c path line then closed_by i (fails_at line c.row) next else next

-- the lines that ask something of the kept numbers alone are tried in order, from place i on; the first that fails closes the path
abbrev pub first_failing : SearchCase → List Bool → ℕ → List Derived → PathState
first_failing c path i [] = Open
first_failing c path i (d ∷ lines) = tried_line c path i d.line (first_failing c path (suc i) lines)

-- the first box of all codes closes the path
abbrev pub first_whole : Option ℕ → PathState
first_whole (Some i) = ClosedBox i
first_whole None = Open

-- the state that the boxes of a path make
abbrev pub whole_state : SearchCase → List BoxFrom → PathState
whole_state c boxes = first_whole (position (λ (b : BoxFrom). are_whole (shape_of c.survey.fields) b.code_box.sets) boxes)

-- a path that treats all numerical fields: the boxes of all lines are made, and then the first failing line for all codes,
-- or the first box of all codes closes it
abbrev pub state_with_boxes : SearchCase → List Bool → List Derived → Result (List BoxFrom) LineFault → PathState
state_with_boxes c path lines (Err fault) = Overflows (event.Test fault.line fault.field)
state_with_boxes c path lines (Ok boxes) =
    if length path == number_count c
    then first_failing c path 0 lines
    else whole_state c (fold (boxes_after c path) boxes (treated_codes c path))

-- the event of the overflow of a step of elimination
abbrev pub step_event : StepOverflow → Event
step_event o = event.Step o.first o.second o.place

-- a path that keeps no field without a value, by the system of the numerical fields that it changes
abbrev pub state_with_system : SearchCase → List Bool → Result (List Derived) SystemOverflow → PathState
state_with_system c path (Err o) = Overflows (step_event o.step)
state_with_system c path (Ok lines) =
    if nat_lt (length path) (number_count c)
    then first_failing c path 0 lines
    else state_with_boxes c path lines (failing_from 0 lines c.row [])

-- whether a path is closed, and by what, or open, or overflows
abbrev pub state_of : SearchCase → List Bool → PathState
state_of c path =
    if keeps_bad c.survey.fields c.row path
    then ClosedBad
    else state_with_system c path (system_of c.edits (changed_numbers c path))

-- the path is open
abbrev pub IsOpen : SearchCase → List Bool → Type 0
IsOpen c path = state_of c path ≡ Open

-- the path is closed
abbrev pub IsClosed : SearchCase → List Bool → Type 0
IsClosed c path = is_closed (state_of c path) ≡ true

-- no number that is computed for the path leaves the range
abbrev pub StaysInRange : SearchCase → List Bool → Type 0
StaysInRange c path = (e : Event) → state_of c path ≡ Overflows e → ⊥
