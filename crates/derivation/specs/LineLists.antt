-- Lists of steps each of which proves a line by itself, whatever the record is.
use Rattle.std.specs.Prelude.{◌≡◌, ℕ, Bool, List, [], ◌∷◌, ◌++◌, Option, None, Result, Ok, Err, length, slice_get}
use Rattle.std.specs.Option.{ok_or}
use Rattle.foundation.specs.Results.{◌>>=◌}
use Rattle.foundation.specs.Options.{◌>>?◌}
use Rattle.edit_model.specs.Parts.{SurveyParts}
use Rattle.edit_line.specs.Lines.{Follows, LineParts}
use Rattle.edit_line.specs.Reductions.{IsIn}
use Rattle.derivation.specs.Premises.{Premises, premises_over, usable_lines}
use Rattle.derivation.specs.ValidSteps.{as_line, combined_line, given_line}
use Rattle.derivation.specs.declared.step.Step.{Step}
use Rattle.derivation.specs.declared.step.Step.TheVariants as step

-- what such steps build on: lines over a survey's fields, of which the usable ones are taken to hold, and no record
abbrev pub no_record : SurveyParts → List LineParts → List Bool → Premises
no_record survey given usable = premises_over survey given usable [] 0

-- the line of a step, from those of the steps before it: a usable given line, or a combination of two; nothing where the step is
-- no valid one of these two kinds
abbrev pub line_by : Premises → List LineParts → Step → Option LineParts
line_by p lines (step.Given place) = as_line (given_line p place)
line_by p lines (step.Combine a m b n g) =
    slice_get lines a >>? (λ s. slice_get lines b >>? (λ t. as_line (combined_line m n g s t)))
line_by p lines other = None

-- the lines of the steps, behind those of the steps before them; or the place of the first step that gives none
abbrev pub lines_from : Premises → List LineParts → List Step → Result (List LineParts) ℕ
lines_from p lines [] = Ok lines
lines_from p lines (step ∷ steps) = do
  line ← ok_or (line_by p lines step) (length lines)
  lines_from p (lines ++ line ∷ []) steps

-- these are the lines of the steps, one for each
abbrev pub AreLinesOf : Premises → List Step → List LineParts → Type 0
AreLinesOf p steps lines = lines_from p [] steps ≡ Ok lines

-- the step at this place is the first that gives no line
abbrev pub IsFirstWithoutLine : Premises → List Step → ℕ → Type 0
IsFirstWithoutLine p steps place = lines_from p [] steps ≡ Err place

-- each of the lines follows from the usable ones
abbrev pub AllFollowFrom : Premises → List LineParts → Type 0
AllFollowFrom p lines = (line : LineParts) → IsIn line lines → Follows (usable_lines p.given p.usable) line
