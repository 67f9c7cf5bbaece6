-- What is told of the records, one after the other.
use Rattle.std.specs.Prelude.{◌≡◌, ℕ, List, [], ◌∷◌, ◌++◌, codes, length, not, take}
use Rattle.std.specs.List.{AllZip, flat_map, list_any}
use Rattle.edit_model.specs.Parts.{SurveyParts}
use Rattle.edit_model.specs.declared.field.Field.{Field}
use Rattle.edit_normal.specs.RuleLines.{normal_lines_of}
use Rattle.record_text.specs.Sheets.{SheetParts}
use Rattle.record_text.specs.Texts.{records_text}
use Rattle.edit_report.specs.Reasons.{cause_line, reasons_header, reasons_of}
use Rattle.edit_report.specs.Released.{released_of}
use Rattle.edit_report.specs.Summaries.{is_unresolved, summary_of}
use Rattle.edit_report.specs.declared.end.RowEnd.{RowEnd}
use Rattle.proof_text.specs.RowTexts.{row_text}
use Rattle.panel_link.specs.declared.linked.Linked.{Linked}
use Rattle.panel_release.specs.PanelReleases.{IsAnswerAmong, PanelCase, answer_text, end_of, ends_of, head_text, panel_lines, reasons_to, released_to}
use Rattle.panel_release.specs.inner.Counts.{AreCountsOf, AreFew}
use Rattle.panel_release.specs.inner.Panels.{rows_of}
use Rattle.panel_release.specs.declared.release.PanelRelease.{PanelRelease}
use Rattle.panel_release.specs.declared.told.Told.{Told}

-- ---- one record

-- what is told of a record more with this answer
pub record TellsOne (fields : List Field) (columns : List ℕ) (number : ℕ) (texts : List (List ℕ)) (answer : Linked)
    (before after : Told) : Type 0 where
  pub released : after.released ≡ before.released ++ records_text (released_of fields columns texts (end_of answer))
  pub reasons : after.reasons ≡ before.reasons ++ records_text (panel_lines fields columns number texts answer)
  pub proof : after.proof.items ≡ before.proof.items ++ answer_text answer

-- a record more is told as an edit tells any record that ended so
pub record TellsEnd (fields : List Field) (columns : List ℕ) (number : ℕ) (texts : List (List ℕ)) (end : RowEnd)
    (before after : Told) : Type 0 where
  pub released : after.released ≡ before.released ++ records_text (released_of fields columns texts end)
  pub reasons : after.reasons ≡ before.reasons ++ records_text (reasons_of fields columns number texts end)
  pub proof : after.proof.items ≡ before.proof.items ++ row_text end.proof

-- a record more is told: it is not released for this cause, and the proof has this text of it
pub record TellsCause (number : ℕ) (cause text : List ℕ) (before after : Told) : Type 0 where
  pub released : after.released ≡ before.released
  pub reasons : after.reasons ≡ before.reasons ++ records_text (cause_line number cause [] ∷ [])
  pub proof : after.proof.items ≡ before.proof.items ++ text

-- ---- all of them

-- no record is told yet
pub record TellsNone (own : SheetParts) (lines budget : ℕ) (told : Told) : Type 0 where
  pub released : told.released ≡ records_text (own.header ∷ [])
  pub reasons : told.reasons ≡ records_text (reasons_header ∷ [])
  pub proof : told.proof.items ≡ head_text budget lines (length own.rows)
  pub counted : (fields : List Field) → AreCountsOf fields [] told.counts
  pub few : AreFew told.counts
  pub none : told.counts.records ≡ 0

-- the first n records have answers, and these are what is told so far
pub record TellsTo (panel : PanelCase) (budget n : ℕ) (told : Told) : Type 0 where
  pub answers : List Linked
  pub each : AllZip (IsAnswerAmong panel.survey panel.set budget) (take n (rows_of panel)) answers
  pub released : told.released ≡ released_to panel (take n panel.files.own.row_texts) answers
  pub reasons : told.reasons ≡ reasons_to panel (take n panel.files.own.row_texts) answers
  pub proof : told.proof.items
      ≡ head_text budget (length (normal_lines_of panel.survey)) (length panel.files.own.rows) ++ flat_map answer_text answers
  pub counted : AreCountsOf panel.survey.fields (ends_of answers) told.counts
  pub few : AreFew told.counts
  pub all : told.counts.records ≡ n

-- this is made of all that was told, when the proof is ended: the files, the line that counts, and whether no record is unresolved
pub record EndsAs (told : Told) (release : PanelRelease) : Type 0 where
  pub released : release.released.items ≡ told.released
  pub reasons : release.reasons.items ≡ told.reasons
  pub proof : release.proof.items ≡ told.proof.items ++ codes "end\n"
  pub summary : (survey : SurveyParts) (ends : List RowEnd) → AreCountsOf survey.fields ends told.counts
      → release.summary.items ≡ summary_of survey ends
  pub whole : (fields : List Field) (ends : List RowEnd) → AreCountsOf fields ends told.counts
      → release.whole ≡ not (list_any is_unresolved ends)
