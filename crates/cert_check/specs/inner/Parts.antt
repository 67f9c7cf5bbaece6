-- Parts of the checks of a proof. Private contracts alone cite this page.
use Rattle.std.specs.Prelude.{◌≡◌, ◌≢◌, ℕ, Bool, List, Option, Some, slice_get}
use Rattle.edit_model.specs.Parts.{SurveyParts}
use Rattle.edit_model.specs.declared.value.Value.{Value}
use Rattle.edit_line.specs.Lines.{LineParts}
use Rattle.edit_line.specs.Shapes.{shape_of}
use Rattle.edit_line.specs.declared.relation.Relation.TheVariants.{Equal}
use Rattle.derivation.specs.Premises.{Premises, premises_of}
use Rattle.derivation.specs.Refutations.{refutation_of}
use Rattle.derivation.specs.declared.step.Step.{Step}
use Rattle.cert_check.specs.Dropped.{verdict_fault}

-- how many lines behind its first line the first fault of what is said of the line at the place is, from the lines that are left
abbrev pub IsFaultAt : SurveyParts → List LineParts → List Bool → ℕ → List Value → Option (List Step) → Option ℕ → Type 0
IsFaultAt survey lines left place row verdict found = (line : LineParts) → slice_get lines place ≡ Some line
    → found ≡ verdict_fault (refutation_of (shape_of survey.fields) lines left line row) line verdict

-- the line at the place is no equality
abbrev pub IsApartAt : List LineParts → ℕ → Type 0
IsApartAt lines place = (line : LineParts) → slice_get lines place ≡ Some line → line.relation ≢ Equal

-- what steps may build on that keep no field of a record: the usable lines
abbrev pub premises_without : SurveyParts → List LineParts → List Bool → List Value → Premises
premises_without survey given usable row = premises_of (shape_of survey.fields) given usable row 0
