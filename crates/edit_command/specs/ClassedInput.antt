-- The rules and the records that the command `classed` reads, and why they are refused.
use Rattle.std.specs.Prelude.{◌≡◌, ◌⊎◌, ⊤, ℕ, List, Option, Some}
use Rattle.edit_desk.specs.Desk.{Files, IsLonger}
use Rattle.edit_model.specs.Parts.{SurveyParts}
use Rattle.record_text.specs.Sheets.{IsSheet, SheetParts}
use Rattle.run_parts.specs.Limits.{most_bytes}
use Rattle.run_parts.specs.Readings.{AreNoRecords, HoldsLonger, HoldsRecords, HoldsRules, HoldsText, IsInputDue, RefusesInput, WithRules}
use Rattle.run_parts.specs.declared.fault.Fault.{Fault}
use Rattle.run_parts.specs.declared.fault.Fault.TheVariants as fault
use Rattle.run_parts.specs.declared.status.Status.{Status}
use Rattle.run_parts.specs.declared.status.Status.TheVariants as status
use Rattle.edit_command.specs.ClassFields.{HasClass, IsClassField}

-- some survey is read from a file of this name, a categorical field of it has this name, and the claim holds of the survey
abbrev pub WithClass : Option Files → List ℕ → List ℕ → (SurveyParts → Type 0) → Type 0
WithClass files rules class P = WithRules files rules (λ survey. HasClass survey.fields class × P survey)

-- some survey is read from a file of this name, and no categorical field of it has this name
abbrev pub WithoutClass : Option Files → List ℕ → List ℕ → Type 0
WithoutClass files rules class = WithRules files rules (λ survey. ¬ HasClass survey.fields class)

-- this is read from files of these names: a survey, whose categorical field of this number has this name, and the records
pub record HoldsClassed (files : Option Files) (rules records class : List ℕ)
    (survey : SurveyParts) (number : ℕ) (sheet : SheetParts) : Type 0 where
  pub read_rules : HoldsRules files rules survey
  pub named : IsClassField survey.fields class number
  pub read_records : HoldsRecords files records survey.fields sheet

-- the file of this name is fetched where these two are: it is the rules; or it is the records, and the rules were read and have the
-- class field
abbrev pub IsClassedFile : List ℕ → List ℕ → List ℕ → Option Files → List ℕ → Type 0
IsClassedFile rules records class files name =
    (name ≡ rules) ⊎ ((name ≡ records) × WithClass files rules class (λ survey. ⊤))

-- why the rules and the records are refused: as for an edit, but that the rules have to have the class field before the records are
-- fetched; where no categorical field has its name, that name is refused
abbrev pub RefusesByClass : List ℕ → List ℕ → List ℕ → Option Files → Fault → Type 0
RefusesByClass rules records class files (fault.Class name) = (name ≡ class) × WithoutClass files rules class
RefusesByClass rules records class files (fault.Records what) =
    WithClass files rules class (λ survey. HoldsText files records (AreNoRecords survey.fields what))
RefusesByClass rules records class files (fault.TooLong name) =
    IsClassedFile rules records class files name × HoldsLonger files name most_bytes
RefusesByClass rules records class files (fault.Read name) = IsClassedFile rules records class files name
RefusesByClass rules records class files f = RefusesInput rules records files f

-- the rules and the records are to be refused with this status: the rules as for an edit; the class field where the rules were read
-- without it; the records where the rules have it
abbrev pub IsDueByClass : List ℕ → List ℕ → List ℕ → Files → Status → Type 0
IsDueByClass rules records class files status.TooLong =
    IsLonger files rules most_bytes ⊎ WithClass (Some files) rules class (λ survey. IsLonger files records most_bytes)
IsDueByClass rules records class files status.Class = WithoutClass (Some files) rules class
IsDueByClass rules records class files status.Records = WithClass (Some files) rules class
    (λ survey. HoldsText (Some files) records (λ bytes. (sheet : SheetParts) → ¬ IsSheet survey.fields bytes sheet))
IsDueByClass rules records class files answer = IsInputDue rules records files answer
