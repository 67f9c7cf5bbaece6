use Rattle.std.specs.Prelude.{◌≡◌, ◌↔◌, All, List, map, ℕ}
use Rattle.std.specs.List.Sorted.{IsStrictlyIncreasing}
use Rattle.edit_model.specs.Points.{HasCodesFrom, IsConsistent, Point}
use Rattle.edit_model.specs.Parts.{SurveyParts}
use Rattle.edit_line.specs.Lines.{AllHold, IsLine, LineParts}
use Rattle.edit_line.specs.Reductions.{lines_of, reduce_derived}
use Rattle.edit_line.specs.Shapes.{Domain}
use Rattle.edit_line.specs.declared.derived.Derived.{Derived}
use Rattle.edit_line.specs.declared.derived.Origin.TheVariants.{Base}

-- numbered lines over a survey's fields
pub record EditsParts : Type 0 where
  pub shape : List Domain
  pub lines : List (ℕ × LineParts)

-- the lines are over these fields, and each number is greater than those before it
pub record AreEdits (shape : List Domain) (lines : List (ℕ × LineParts)) : Type 0 where
  pub over : All (λ (e : ℕ × LineParts). e.1.shape ≡ shape) lines
  pub rising : IsStrictlyIncreasing (map (λ (e : ℕ × LineParts). e.0) lines)

-- the edits of these lines
abbrev pub edits_of : List Domain → List (ℕ × LineParts) → EditsParts
edits_of shape lines = record { shape = shape; lines = lines }

-- the edits as lines, without their numbers
abbrev pub lines_without : List (ℕ × LineParts) → List LineParts
lines_without edits = map (λ (e : ℕ × LineParts). e.1) edits

-- a point with codes of the survey meets the edits exactly where it meets all rules
abbrev pub SayTheRules : SurveyParts → EditsParts → Type 0
SayTheRules survey edits = (p : Point)
    → (HasCodesFrom 0 survey.fields p × AllHold (lines_without edits.lines) p) ↔ IsConsistent survey p

-- the numbered edits as lines with their origins
abbrev pub base_lines : List (ℕ × LineParts) → List Derived
base_lines edits = map (λ (e : ℕ × LineParts). record { line = e.1; origin = Base e.0 }) edits

-- the lines are edits over these fields, and the list beside them is what reduction leaves of them
pub record IsReducedOf (shape : List Domain) (lines : List (ℕ × LineParts)) (reduced : List Derived) : Type 0 where
  pub edits : AreEdits shape lines
  pub lines_are : reduced ≡ reduce_derived (base_lines lines)
  pub are_lines : All IsLine (lines_of reduced)
