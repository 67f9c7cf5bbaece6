use Rattle.std.specs.Prelude.{◌≡◌, ◌≢◌, ℕ, pos, ◌+ℤ◌, ◌*ℤ◌, List, Ok}
use Rattle.fraction128.specs.Formulas.{Ratio}
use Rattle.edit_model.specs.Points.{Point}
use Rattle.edit_model.specs.declared.value.Value.{Value}
use Rattle.edit_line.specs.CodeFields.{codes_in}
use Rattle.edit_line.specs.Lines.{AllHold, IsEnough, LineParts, factor}
use Rattle.edit_line.specs.Reductions.{IsIn}
use Rattle.edit_line.specs.Sets.{AreCodesIn}
use Rattle.edit_model.specs.Parts.{SurveyParts}
use Rattle.edit_model.specs.Corrections.{IsCorrection}
use Rattle.edit_model.specs.Points.{HasCodesFrom}
use Rattle.back_subst.specs.Allowed.{AgreesBut}
use Rattle.back_subst.specs.NumberWalk.{rest_of}

-- the edits hold exactly at the corrections, among the points that have the record's values at all fields but these
pub record DecideFor (survey : SurveyParts) (edits : List LineParts) (row : List Value) (left : List ℕ) : Type 0 where
  pub sound : (p : Point) → HasCodesFrom 0 survey.fields p → AllHold edits p → IsCorrection survey p
  pub complete : (p : Point) → IsCorrection survey p → AgreesBut left row p → AllHold edits p

-- the line bounds the field at the record: the record's codes are in its sets, and it has a factor there
pub record BoundsField (line : LineParts) (row : List Value) (f : ℕ) : Type 0 where
  pub codes : AreCodesIn line.sets (codes_in line.shape row)
  pub stands : factor line f ≢ pos 0

-- a number at the field is within the bound that the line gives with this rest
abbrev pub IsWithinBound : LineParts → ℕ → Ratio → Ratio → Type 0
IsWithinBound line f rest x =
    IsEnough line.relation (factor line f *ℤ x.numerator *ℤ rest.denominator +ℤ rest.numerator *ℤ x.denominator)

-- the number is within the bounds of all lines that bound the field
abbrev pub AreWithinBounds : List LineParts → List Value → ℕ → Ratio → Type 0
AreWithinBounds lines row f x =
    (line : LineParts) (rest : Ratio) → IsIn line lines → BoundsField line row f → rest_of line row f ≡ Ok rest
    → IsWithinBound line f rest x

-- the rests of all lines that bound the field are in range
abbrev pub RestsFit : List LineParts → List Value → ℕ → Type 0
RestsFit lines row f = (line : LineParts) → IsIn line lines → BoundsField line row f → (r : Ratio) × (rest_of line row f ≡ Ok r)
