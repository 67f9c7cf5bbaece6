use Rattle.std.specs.Prelude.{◌↔◌, ℕ, suc, Bool, List, [], ◌∷◌, All, Result, Ok, if◌then◌else◌}
use Rattle.foundation.specs.Results.{◌>>=◌, fault_as}
use Rattle.edit_model.specs.Points.{Point}
use Rattle.edit_model.specs.declared.value.Value.{Value}
use Rattle.edit_line.specs.Lines.{AllHold, LineParts}
use Rattle.edit_line.specs.Reductions.{lines_of}
use Rattle.edit_line.specs.Shapes.{Domain}
use Rattle.edit_line.specs.Sums.{AgreesOnLine, fails_at}
use Rattle.edit_line.specs.declared.derived.Derived.{Derived}
use Rattle.categ_combine.specs.BoxLists.{Avoids, sets_of, with_box, with_from}
use Rattle.categ_combine.specs.Covers.{from_of}
use Rattle.categ_combine.specs.declared.box_from.BoxFrom.{BoxFrom}
use Rattle.categ_combine.specs.declared.box_from.BoxOrigin.TheVariants.{Failing}

-- the line whose sum leaves the range, and the field at which it does
pub record LineFault : Type 0 where
  pub line : ℕ
  pub field : ℕ

-- the sum of the line at this place leaves the range at the field
abbrev pub line_fault : ℕ → ℕ → LineFault
line_fault i f = record { line = i; field = f }

-- the sets of the failing lines, from place i on, taken in order into the kept boxes
abbrev pub boxes_from : ℕ → List LineParts → List Value → List (List ℕ) → Result (List (List ℕ)) LineFault
boxes_from i [] row kept = Ok kept
boxes_from i (line ∷ lines) row kept = do
  fails ← fault_as (line_fault i) (fails_at line row)
  boxes_from (suc i) lines row (if fails then with_box kept line.sets else kept)

-- the boxes of a record: the sets of the lines that fail there, reduced; or the first line whose sum leaves the range
abbrev pub failing_boxes : List LineParts → List Value → Result (List (List ℕ)) LineFault
failing_boxes lines row = boxes_from 0 lines row []

-- ---- failing boxes with their origins

-- at a point that agrees with the record on the lines, these all hold exactly where the codes avoid the boxes
abbrev pub SayTheLines : List Domain → List Derived → List Value → List BoxFrom → Type 0
SayTheLines shape lines row boxes = (p : Point)
    → All (λ (d : Derived). AgreesOnLine row p d.line) lines → AllHold (lines_of lines) p ↔ Avoids shape (sets_of boxes) p

-- the kept boxes, with the sets of a line at a place where it fails
abbrev pub taken : List BoxFrom → ℕ → LineParts → Bool → List BoxFrom
taken kept i line fails = if fails then with_from kept (from_of line.shape line.sets (Failing i)) else kept

-- the failing lines' boxes, from place i on, taken in order into the kept ones
abbrev pub failing_from : ℕ → List Derived → List Value → List BoxFrom → Result (List BoxFrom) LineFault
failing_from i [] row kept = Ok kept
failing_from i (d ∷ lines) row kept = do
  fails ← fault_as (line_fault i) (fails_at d.line row)
  failing_from (suc i) lines row (taken kept i d.line fails)
