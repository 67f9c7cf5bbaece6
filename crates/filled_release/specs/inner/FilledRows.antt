-- What is written and counted of the first rows.
use Rattle.std.specs.Prelude.{◌≡◌, ◌<◌, ⊤, ℕ, All, List, ◌∷◌, take}
use Rattle.std.specs.List.{AllZip}
use Rattle.foundation.specs.Limits.{most_fields}
use Rattle.edit_model.specs.Parts.{SurveyParts}
use Rattle.edit_model.specs.Rows.{IsRow}
use Rattle.edit_model.specs.declared.field.Field.{Field}
use Rattle.record_text.specs.Sheets.{SheetParts}
use Rattle.record_text.specs.Texts.{records_text}
use Rattle.deduce_fill.specs.declared.filled.Filled.{Filled}
use Rattle.deduce_fill.specs.declared.filled.Filled.TheVariants.{Blocked, Budget, Done, Overflow}
use Rattle.deduce_fill.specs.declared.filled.Forced.{Forced}
use Rattle.filled_release.specs.FilledFiles.{IsAnswerFor, filled_rows}
use Rattle.filled_release.specs.inner.Counts.{AreCountsOf, AreFew}
use Rattle.filled_release.specs.declared.counts.Counts.{Counts}

-- the record that is done is one of these fields, and its forced values stand at fields that there can be
abbrev pub CanBeWritten : List Field → Filled → Type 0
CanBeWritten fields (Done new forced) = IsRow fields new × All (λ (e : Forced). e.field < most_fields) forced
CanBeWritten fields (Blocked steps) = ⊤
CanBeWritten fields (Budget work) = ⊤
CanBeWritten fields (Overflow test) = ⊤

-- the first n records have answers, and these are what the text and the counts so far tell
pub record IsFilledTo (survey : SurveyParts) (sheet : SheetParts) (budget n : ℕ) (written : List ℕ) (counts : Counts) : Type 0 where
  pub answers : List Filled
  pub each : AllZip (IsAnswerFor survey budget) (take n sheet.rows) answers
  pub text : written ≡ records_text (sheet.header ∷ filled_rows survey.fields sheet.columns (take n sheet.row_texts) answers)
  pub counted : AreCountsOf answers counts
  pub few : AreFew counts
  pub all : counts.records ≡ n
