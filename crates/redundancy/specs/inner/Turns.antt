use Rattle.std.specs.Prelude.{◌≡◌, ℕ, ◌+◌, ◌&&◌, Bool, List, [], ◌∷◌, Option, Some, None, Result, Ok, Err, if◌then◌else◌, nat_eq, nat_lt, slice_get}
use Rattle.std.specs.Cmp.Lexicographic.{pointwise}
use Rattle.std.specs.List.{position}
use Rattle.edit_model.specs.Parts.{SurveyParts}
use Rattle.edit_model.specs.declared.value.Value.{Value}
use Rattle.edit_line.specs.CodeFields.{TakesCodes}
use Rattle.edit_line.specs.Lines.{LineParts}
use Rattle.edit_line.specs.Shapes.{Domain, code_fields, number_fields, whole_sets}
use Rattle.edit_line.specs.Subsumption.{is_false}
use Rattle.edit_line.specs.declared.derived.Derived.{Derived}
use Rattle.linear_elim.specs.Steps.{StepOverflow, pairs_count, step_result}
use Rattle.categ_combine.specs.BoxLists.{AreBoxesOver, sets_of}
use Rattle.categ_combine.specs.Covers.{cover_count, covered_from}
use Rattle.categ_combine.specs.FailingBoxes.{LineFault, failing_from}
use Rattle.categ_combine.specs.declared.box_from.BoxFrom.{BoxFrom}
use Rattle.edit_paths.specs.Histories.{History, steps_to, with_boxes, with_lines}
use Rattle.redundancy.specs.Verdicts.{verdict_on, within}
use Rattle.redundancy.specs.declared.verdict.Verdict.{Verdict}
use Rattle.redundancy.specs.declared.verdict.Verdict.TheVariants.{Dropped, Kept}
use Rattle.redundancy.specs.declared.verdict.Why.TheVariants.{Budget, Needed, Overflow}

-- The walk field by field. From one field to the next it keeps the work so far, the history, and the last list of lines or
-- boxes.

-- the place of the first false line of all codes, whose sets these are
abbrev pub closing_line : List ℕ → List Derived → Option ℕ
closing_line wholes lines = position (λ (d : Derived). pointwise nat_eq d.line.sets wholes && is_false d.line) lines

-- the place of the first box of all codes
abbrev pub closing_box : List ℕ → List BoxFrom → Option ℕ
closing_box wholes boxes = position (λ (b : BoxFrom). pointwise nat_eq b.code_box.sets wholes) boxes

-- the line is dropped by the element at a place, if there is one, and else the walk goes on
abbrev pub dropped_by : History → Option ℕ → Verdict → Verdict
dropped_by history (Some place) next = Dropped (steps_to history place)
dropped_by history None next = next

-- the work of eliminating a numerical field from the lines
abbrev pub number_work : List Derived → ℕ → ℕ
number_work lines f = 1 + pairs_count lines f

-- the work of eliminating a categorical field from the boxes
abbrev pub code_work : List Domain → List BoxFrom → ℕ → ℕ
code_work shape boxes f = 1 + cover_count shape (sets_of boxes) f

-- the walk over the categorical fields
abbrev pub code_walk : List Domain → ℕ → ℕ → History → List BoxFrom → List ℕ → Verdict
code_walk shape budget spent history boxes [] = Kept Needed
code_walk shape budget spent history boxes (f ∷ fields) =
    let work = spent + code_work shape boxes f in
    let next = covered_from shape boxes f in
    let walked = with_boxes history f next in
    within budget work (dropped_by walked (closing_box (whole_sets shape) next) (code_walk shape budget work walked next fields))

-- the walk over all categorical fields
abbrev pub all_code_walk : List Domain → ℕ → ℕ → History → List BoxFrom → Verdict
all_code_walk shape budget spent history boxes = code_walk shape budget spent history boxes (code_fields shape)

-- the walk from the boxes on, where no number leaves the range
abbrev pub box_walk : List Domain → ℕ → ℕ → History → List Derived → Result (List BoxFrom) LineFault → Verdict
box_walk shape budget spent history lines (Err fault) = Kept Overflow
box_walk shape budget spent history lines (Ok boxes) =
    dropped_by history (closing_line (whole_sets shape) lines)
    (all_code_walk shape budget spent (with_boxes history 0 boxes) boxes)

-- the walk from the next lines on, where no number leaves the range
abbrev pub or_overflow : Result (List Derived) StepOverflow → (List Derived → Verdict) → Verdict
or_overflow (Ok lines) walk = walk lines
or_overflow (Err overflow) walk = Kept Overflow

-- the walk over the numerical fields
abbrev pub number_walk : List Domain → List Value → ℕ → ℕ → History → List Derived → List ℕ → Verdict
number_walk shape row budget spent history lines [] =
    box_walk shape budget spent history lines (failing_from 0 lines row [])
number_walk shape row budget spent history lines (f ∷ fields) =
    let work = spent + number_work lines f in
    dropped_by history (closing_line (whole_sets shape) lines)
    (within budget work
    (or_overflow (step_result lines f) (λ next. number_walk shape row budget work (with_lines history next) next fields)))

-- ---- one turn of the walk

-- the verdict that drops the line by the element at a place, if there is one; else the next verdict, if any
abbrev pub ended_by : History → Option ℕ → Option Verdict → Option Verdict
ended_by history (Some place) next = Some (Dropped (steps_to history place))
ended_by history None next = next

-- the verdict that keeps the line, where the work passes the budget; else the next verdict, if any
abbrev pub past : ℕ → ℕ → Option Verdict → Option Verdict
past budget work next = if nat_lt budget work then Some (Kept Budget) else next

-- the verdict that keeps the line, where a number leaves the range; else none
abbrev pub overflowed : Result (List Derived) StepOverflow → Option Verdict
overflowed (Ok lines) = None
overflowed (Err overflow) = Some (Kept Overflow)

-- the verdict, if the walk ends at these lines or in the step at the next field
abbrev pub number_end : List ℕ → ℕ → ℕ → History → List Derived → ℕ → Option Verdict
number_end wholes budget spent history lines f =
    ended_by history (closing_line wholes lines)
    (past budget (spent + number_work lines f) (overflowed (step_result lines f)))

-- the verdict, if the walk ends in the elimination of the next field
abbrev pub code_end : List Domain → ℕ → ℕ → History → List BoxFrom → ℕ → Option Verdict
code_end shape budget spent history boxes f =
    let next = covered_from shape boxes f in
    past budget (spent + code_work shape boxes f) (ended_by (with_boxes history f next) (closing_box (whole_sets shape) next) None)

-- the verdict, if there is one, is that of the elimination of field f from the boxes, whose whole sets these are
abbrev pub IsCodeEnd : List ℕ → ℕ → ℕ → History → List BoxFrom → ℕ → Option Verdict → Type 0
IsCodeEnd wholes budget spent history boxes f told =
    (shape : List Domain) → wholes ≡ whole_sets shape → AreBoxesOver shape boxes → TakesCodes shape f
    → told ≡ code_end shape budget spent history boxes f

-- the later boxes are those that the elimination of field f leaves of the others
abbrev pub AreCovered : List BoxFrom → ℕ → List BoxFrom → Type 0
AreCovered boxes f later =
    (shape : List Domain) → AreBoxesOver shape boxes → TakesCodes shape f → later ≡ covered_from shape boxes f

-- the work of the elimination of field f from the boxes is added to what was spent
abbrev pub AddsWork : List BoxFrom → ℕ → ℕ → ℕ → Type 0
AddsWork boxes f spent later =
    (shape : List Domain) → AreBoxesOver shape boxes → TakesCodes shape f → later ≡ spent + code_work shape boxes f

-- the verdict on the line at a place, where these lines are left
abbrev pub IsVerdict : SurveyParts → List LineParts → ℕ → ℕ → List Bool → Verdict → Type 0
IsVerdict survey lines budget place left verdict =
    (line : LineParts) → slice_get lines place ≡ Some line → verdict ≡ verdict_on survey lines budget left line

-- the verdict of the walk over these lines, which are reduced
abbrev pub lines_verdict : List Domain → List Value → ℕ → List Derived → Verdict
lines_verdict shape row budget lines = within budget 1 (number_walk shape row budget 1 (with_lines [] lines) lines (number_fields shape))
