use Rattle.std.specs.Prelude.{◌≡◌, ℕ, ℤ, pos, ◌+◌, ◌-◌, ◌<◌, Bool, false, List, Option, Some, None, length, slice_index_or}
use Rattle.std.specs.Arc.{arc_value}
use Rattle.edit_model.specs.declared.value.Value.{Value}
use Rattle.edit_model.specs.declared.value.Value.TheVariants.{Bad, Code, Number}
use Rattle.edit_line.specs.Lines.{LineParts}
use Rattle.edit_line.specs.Shapes.{shape_of}
use Rattle.categ_combine.specs.BoxLists.{sets_of}
use Rattle.categ_combine.specs.Covers.{cover_count, covered_from}
use Rattle.categ_combine.specs.Fixing.{fixed_from}
use Rattle.categ_combine.specs.declared.box_from.BoxFrom.{BoxFrom}
use Rattle.edit_paths.specs.Cases.{SearchCase}
use Rattle.edit_paths.specs.Paths.{before_last, last_letter}
use Rattle.edit_paths.specs.States.{tried_line, whole_state}
use Rattle.edit_paths.specs.declared.state.PathState.{PathState}
use Rattle.edit_paths.specs.declared.state.PathState.TheVariants.{ClosedBad}
use Rattle.path_walk.specs.declared.looks.Basis.{Basis}
use Rattle.path_walk.specs.declared.looks.Basis.TheVariants.{Boxes, Lines}
use Rattle.path_walk.specs.declared.looks.Look.{Look}

-- ---- a line that is tried

-- the state that a tried line decides, or else that of the next lines
abbrev pub or_next : Option PathState → PathState → PathState
or_next (Some state) next = state
or_next None next = next

-- the path keeps its last field, and the line of these factors does not have it
pub record IsAside (path : List Bool) (factors : List ℤ) : Type 0 where
  pub some : 0 < length path
  pub kept : last_letter path ≡ false
  pub none : slice_index_or factors (length path - 1) (pos 0) ≡ pos 0

-- where the path keeps its last field, the line at this place did not close the path before
abbrev pub HasPassed : SearchCase → List Bool → ℕ → LineParts → Type 0
HasPassed c path i line =
    0 < length path → last_letter path ≡ false → (next : PathState)
    → tried_line c (before_last path) i line next ≡ next

-- ---- a categorical field that is treated

-- the boxes are these
abbrev pub AreBoxes : List BoxFrom → Basis → Type 0
AreBoxes boxes (Lines system) = ⊥
AreBoxes boxes (Boxes own) = arc_value own ≡ boxes

-- the work of combining the boxes at the field
abbrev pub cover_work : SearchCase → List BoxFrom → ℕ → ℕ
cover_work c before f = 1 + cover_count (shape_of c.survey.fields) (sets_of before) f

-- the look is that at a path that changes the field: the boxes are combined there
pub record IsChanged (c : SearchCase) (before : List BoxFrom) (f : ℕ) (look : Look) : Type 0 where
  pub work : look.work ≡ cover_work c before f
  pub basis : AreBoxes (covered_from (shape_of c.survey.fields) before f) look.basis
  pub state : look.state ≡ whole_state c (covered_from (shape_of c.survey.fields) before f)

-- the look is that at a path that keeps the field: the boxes are fixed at its code, and a field without one closes the path
abbrev pub IsKept : SearchCase → List BoxFrom → ℕ → Value → Look → Type 0
IsKept c before f (Code code) look =
    AreBoxes (fixed_from (shape_of c.survey.fields) before f code) look.basis
    × (look.state ≡ whole_state c (fixed_from (shape_of c.survey.fields) before f code))
IsKept c before f (Number x) look = look.state ≡ ClosedBad
IsKept c before f Bad look = look.state ≡ ClosedBad
