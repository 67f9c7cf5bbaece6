use Rattle.std.specs.Prelude.{◌≡◌, ◌≢◌, ℕ, Bool, true, false, List, [], ◌∷◌}
use Rattle.edit_model.specs.FieldSets.{has_number}
use Rattle.edit_model.specs.Parts.{SurveyParts}
use Rattle.edit_model.specs.Points.{Point}
use Rattle.edit_model.specs.RowPoints.{Agrees}
use Rattle.edit_model.specs.Rows.{value_of}
use Rattle.edit_model.specs.declared.value.Value.{Value}
use Rattle.edit_model.specs.declared.value.Value.TheVariants.{Bad}
use Rattle.edit_line.specs.Lines.{LineParts}
use Rattle.edit_line.specs.Shapes.{Domain, shape_of}

-- what steps may build on: lines over the fields of this shape, of which the usable ones are taken to hold, and a
-- record with the set of fields, as bits, that keep its values
pub record Premises : Type 0 where
  pub shape : List Domain
  pub given : List LineParts
  pub usable : List Bool
  pub row : List Value
  pub kept : ℕ

-- the premises of these parts
abbrev pub premises_of : List Domain → List LineParts → List Bool → List Value → ℕ → Premises
premises_of shape given usable row kept = record { shape = shape; given = given; usable = usable; row = row; kept = kept }

-- the premises of these parts, of which the lines are over a survey's fields
abbrev pub premises_over : SurveyParts → List LineParts → List Bool → List Value → ℕ → Premises
premises_over survey given usable row kept = premises_of (shape_of survey.fields) given usable row kept

-- the given lines that are usable
abbrev pub usable_lines : List LineParts → List Bool → List LineParts
usable_lines (line ∷ given) (true ∷ usable) = line ∷ usable_lines given usable
usable_lines (line ∷ given) (false ∷ usable) = usable_lines given usable
usable_lines _ _ = []

-- the record has a value at each kept field
abbrev pub HasKept : List Value → ℕ → Type 0
HasKept row kept = (f : ℕ) → has_number kept f ≡ true → value_of row f ≢ Bad

-- the point has the record's values at the kept fields
abbrev pub AgreesAt : List Value → ℕ → Point → Type 0
AgreesAt row kept point = (f : ℕ) → has_number kept f ≡ true → Agrees row point f
