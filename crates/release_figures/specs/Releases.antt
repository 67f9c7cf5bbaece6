-- What the page of a release is of.
use Rattle.std.specs.Prelude.{ℕ, List, length}
use Rattle.edit_model.specs.Parts.{SurveyParts}
use Rattle.record_text.specs.Sheets.{SheetParts}
use Rattle.reason_lines.specs.declared.reading.Reasons.{Reasons}
use Rattle.page_counts.specs.Records.{released_rows}
use Rattle.release_figures.specs.declared.release.Release.{Release}

-- a survey, its records as they came and as they were released, and the reasons for the changes
pub record ReleaseParts : Type 0 where
  pub survey : SurveyParts
  pub records : SheetParts
  pub released : SheetParts
  pub reasons : Reasons

-- what is seen of a release
abbrev pub release_parts : Release → ReleaseParts
release_parts release =
    record { survey = release.survey.now; records = release.records.now; released = release.released.now; reasons = release.reasons.now }

-- the records that were released, in order: those that the reasons do not leave out
abbrev pub released_numbers : ReleaseParts → List ℕ
released_numbers release = released_rows (length release.records.rows) release.reasons.left_out
