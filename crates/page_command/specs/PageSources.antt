-- The four files that the command `page` reads.
use Rattle.std.specs.Prelude.{◌≡◌, ℕ, List, Option, length}
use Rattle.edit_desk.specs.Desk.{Files}
use Rattle.edit_model.specs.Parts.{SurveyParts}
use Rattle.edit_model.specs.declared.field.Field.{Field}
use Rattle.record_text.specs.Sheets.{SheetParts}
use Rattle.reason_lines.specs.ReasonFiles.{AreReasons}
use Rattle.reason_lines.specs.declared.reading.Reasons.{Reasons}
use Rattle.command_words.specs.Asked.{PageAsked}
use Rattle.release_figures.specs.Releases.{ReleaseParts, released_numbers}
use Rattle.run_parts.specs.Readings.{HoldsRecords, HoldsRules, HoldsText, WithSheet}

-- the bytes read as the reasons for so many records of these fields, and as no others
pub record ReadsAsReasons (fields : List Field) (rows : ℕ) (bytes : List ℕ) (reasons : Reasons) : Type 0 where
  pub read : AreReasons fields rows bytes reasons
  pub only : (other : Reasons) → AreReasons fields rows bytes other → other ≡ reasons

-- the file reads as the reasons for so many records of these fields
abbrev pub HoldsReasons : Option Files → List ℕ → List Field → ℕ → Reasons → Type 0
HoldsReasons files name fields rows reasons = HoldsText files name (λ bytes. ReadsAsReasons fields rows bytes reasons)

-- this is read from the four files: the survey, the records and the released records by its fields, and the reasons by the number of
-- the records
pub record HoldsSources (files : Option Files) (asked : PageAsked) (sources : ReleaseParts) : Type 0 where
  pub rules : HoldsRules files asked.rules sources.survey
  pub records : HoldsRecords files asked.records sources.survey.fields sources.records
  pub released : HoldsRecords files asked.released sources.survey.fields sources.released
  pub reasons : HoldsReasons files asked.reasons sources.survey.fields (length sources.records.rows) sources.reasons

-- how many records were released: those that the reasons do not leave out
abbrev pub kept_count : ReleaseParts → ℕ
kept_count sources = length (released_numbers sources)

-- the released file has as many rows
abbrev pub HasItsRows : ReleaseParts → Type 0
HasItsRows sources = length sources.released.rows ≡ kept_count sources

-- some survey, some records and some released records are read from files of these names, and the claim holds of them
abbrev pub WithReleased : Option Files → PageAsked → (SurveyParts → SheetParts → SheetParts → Type 0) → Type 0
WithReleased files asked P = WithSheet files asked.rules asked.records (λ survey records.
    (released : SheetParts) × HoldsRecords files asked.released survey.fields released × P survey records released)
