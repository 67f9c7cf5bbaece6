-- The four files are read in one way.
use Rattle.std.proofs.Common.{◌≡◌, List, Some, ℕ, subst}
use Rattle.edit_desk.specs.Desk.{Files}
use Rattle.edit_model.specs.Parts.{SurveyParts}
use Rattle.edit_model.specs.declared.field.Field.{Field}
use Rattle.record_text.specs.Sheets.{SheetParts}
use Rattle.reason_lines.specs.declared.reading.Reasons.{Reasons}
use Rattle.command_words.specs.Asked.{PageAsked}
use Rattle.run_parts.specs.Readings.{HoldsRecords, HoldsRules, HoldsText, WithSheet}
use Rattle.run_parts.proofs.HeldLaws.{one_sheet, one_survey}
use Rattle.release_figures.specs.Releases.{ReleaseParts}
use Rattle.page_command.specs.PageSources.{HoldsReasons, HoldsSources, WithReleased}

-- what was read, in one
abbrev pub sources_of : SurveyParts → SheetParts → SheetParts → Reasons → ReleaseParts
sources_of survey records released reasons = record { survey = survey; records = records; released = released; reasons = reasons }

-- a claim on a file, and another, are claims on the same bytes
pub both_claims : {P Q : List ℕ → Type 0} (files : Files) (name : List ℕ) (p : HoldsText (Some files) name P) → (q : HoldsText (Some files) name Q)
    → P q.bytes
both_claims {P} files name p q =
    let one : files name ≡ Some p.bytes = p.held in
    let other : files name ≡ Some q.bytes = q.held in
    let same : p.bytes ≡ q.bytes = cc in
    subst P same p.claim

-- a file reads as one list of reasons
pub one_reasons : (files : Files) (name : List ℕ) (fields : List Field) (rows : ℕ) (a b : Reasons) → HoldsReasons (Some files) name fields rows a
    → HoldsReasons (Some files) name fields rows b → a ≡ b
one_reasons files name fields rows a b ha hb = hb.claim.only a (both_claims files name ha hb).read

module _ (asked : PageAsked) (files : Files) where
  module _ (survey : SurveyParts) (records : SheetParts) (hr : HoldsRules (Some files) asked.rules survey)
      (hs : HoldsRecords (Some files) asked.records survey.fields records) where
    -- what is so of some reading of the rules and the records is so of this one
    pub of_sheet : (P : SurveyParts → SheetParts → Type 0) → WithSheet (Some files) asked.rules asked.records P → P survey records
    of_sheet P (other, ho, (sheet, ht, p)) =
        let same = one_survey files asked.rules other survey ho hr in
        let moved = subst (λ (s : SurveyParts). HoldsRecords (Some files) asked.records s.fields sheet) same ht in
        let one = one_sheet files asked.records survey.fields sheet records moved hs in
        subst (P survey) one (subst (λ (s : SurveyParts). P s sheet) same p)

    -- and of the released file
    pub of_released : (released : SheetParts) → HoldsRecords (Some files) asked.released survey.fields released
        → (P : SurveyParts → SheetParts → SheetParts → Type 0) → WithReleased (Some files) asked P → P survey records released
    of_released released hd P some =
        let (other, ho, p) =
        of_sheet (λ s t. (u : SheetParts) × HoldsRecords (Some files) asked.released s.fields u × P s t u) some in
        subst (P survey records) (one_sheet files asked.released survey.fields other released ho hd) p

  -- what was read of all four files is some reading of the first three
  pub some_released : (sources : ReleaseParts) → HoldsSources (Some files) asked sources → (P : SurveyParts → SheetParts → SheetParts → Type 0)
      → P sources.survey sources.records sources.released → WithReleased (Some files) asked P
  some_released sources held P p =
      (sources.survey, held.rules, (sources.records, held.records, (sources.released, held.released, p)))
