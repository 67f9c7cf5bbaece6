use Rattle.std.specs.Prelude.{◌≡◌, ◌↔◌, ◌<◌, ◌^◌, ℕ, Bool, List}
use Rattle.edit_model.specs.Parts.{SurveyParts}
use Rattle.edit_model.specs.Points.{Point}
use Rattle.edit_model.specs.declared.value.Value.{Value}
use Rattle.edit_line.specs.EditSets.{EditsParts}
use Rattle.bound_cert.specs.declared.cert.Cert.{Cert}
use Rattle.bound_cert.specs.declared.outcome.Outcome.TheVariants as outcome
use Rattle.edit_paths.specs.Cases.{Meets, case_of}
use Rattle.edit_paths.specs.Outcomes.{outcome_of}
use Rattle.panel_link.specs.LinkedCorrections.{IsLinkedCorrection}

-- the edits hold exactly at the corrections that leave the fixed fields alone
abbrev pub TellLinked : SurveyParts → EditsParts → List Value → ℕ → Type 0
TellLinked survey edits row fixed = (p : Point) → Meets (case_of survey edits row) p ↔ IsLinkedCorrection survey row fixed p

-- the edits tell the corrections that leave some fields alone
abbrev pub TellLinkedCorrections : SurveyParts → EditsParts → List Value → Type 0
TellLinkedCorrections survey edits row = (fixed : ℕ) × TellLinked survey edits row fixed

-- the search finds this change, within some budget of 64 bits
abbrev pub IsFound : SurveyParts → EditsParts → List Value → List Bool → ℕ → Cert → Type 0
IsFound survey edits row path weight cert =
    (budget : ℕ) × (budget < 2 ^ 64) × (outcome_of (case_of survey edits row) budget ≡ outcome.Change path weight cert)
