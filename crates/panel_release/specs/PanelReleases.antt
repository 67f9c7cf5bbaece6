-- What is released of a panel, and what is told of it.
use Rattle.std.specs.Prelude.{◌≡◌, ℕ, suc, not, List, [], ◌∷◌, ◌++◌, None, Some, codes, decimal, length, map}
use Rattle.std.specs.List.{AllZip, flat_map, list_any}
use Rattle.edit_model.specs.Parts.{SurveyParts}
use Rattle.edit_model.specs.declared.field.Field.{Field}
use Rattle.edit_model.specs.declared.value.Value.{Value}
use Rattle.edit_normal.specs.RuleLines.{normal_lines_of}
use Rattle.bound_cert.specs.declared.outcome.Outcome.TheVariants as outcome
use Rattle.bound_cert.specs.declared.outcome.RowProof.{RowProof}
use Rattle.record_text.specs.Texts.{records_text}
use Rattle.edit_report.specs.Reasons.{cause_line, reasons_header, reasons_of}
use Rattle.edit_report.specs.Released.{released_rows}
use Rattle.edit_report.specs.Summaries.{is_unresolved, summary_of}
use Rattle.edit_report.specs.declared.end.RowEnd.{RowEnd}
use Rattle.proof_text.specs.RowTexts.{row_text}
use Rattle.panel_files.specs.Joined.{PanelFiles, both_columns, both_rows}
use Rattle.panel_link.specs.Answers.{IsLinked}
use Rattle.panel_link.specs.Laws.{IsShown, Says}
use Rattle.panel_link.specs.declared.linked.Linked.{Linked}
use Rattle.panel_link.specs.declared.linked.Linked.TheVariants as linked
use Rattle.panel_release.specs.declared.release.PanelRelease.{PanelRelease}

-- a survey, the set of its last fields, and the two files of its panel
pub record PanelCase : Type 0 where
  pub survey : SurveyParts
  pub set : ℕ
  pub files : PanelFiles

-- ---- the answers

-- what becomes of a record, whose last fields keep their values, within this budget: what that says of the corrections that leave
-- these fields alone, and what its certificate shows
pub record IsAnswerAmong (survey : SurveyParts) (set budget : ℕ) (row : List Value) (answer : Linked) : Type 0 where
  pub exact : IsLinked survey row set budget answer
  pub says : Says survey row set answer
  pub shown : IsShown survey row set answer

-- what was found of a record, where something was searched
abbrev pub proof_of : Linked → RowProof
proof_of (linked.Change path weight cert gift) = record { outcome = outcome.Change path weight cert; gift = None }
proof_of linked.NoLast = record { outcome = outcome.Contradictory (record { leaves = [] }); gift = None }
proof_of (linked.NoCorrection cert) = record { outcome = outcome.Contradictory cert; gift = None }
proof_of (linked.Stopped proof) = proof

-- how a record ended: a change has new values, and no other record has; there are no donors
abbrev pub end_of : Linked → RowEnd
end_of (linked.Change path weight cert gift) =
    record { proof = proof_of (linked.Change path weight cert gift); donor = None; gift = Some gift }
end_of answer = record { proof = proof_of answer; donor = None; gift = None }

-- how all records ended
abbrev pub ends_of : List Linked → List RowEnd
ends_of answers = map end_of answers

-- ---- the released file

-- the column of each field in the rows of the records; the last fields stand in none
abbrev pub columns_in : PanelCase → List ℕ
columns_in panel = both_columns panel.survey.fields panel.set panel.files.own.columns (length panel.files.own.header)

-- the header and the rows of the records with these texts and answers that were given values, as csv writes them
abbrev pub released_to : PanelCase → List (List (List ℕ)) → List Linked → List ℕ
released_to panel row_texts answers =
    records_text (panel.files.own.header ∷ released_rows panel.survey.fields (columns_in panel) row_texts (ends_of answers))

-- the released file, of all records
abbrev pub panel_text : PanelCase → List Linked → List ℕ
panel_text panel answers = released_to panel panel.files.own.row_texts answers

-- ---- the reasons

-- the lines of a record: why it has no last values, or no correction; else as for any record that ended so
abbrev pub panel_lines : List Field → List ℕ → ℕ → List (List ℕ) → Linked → List (List (List ℕ))
panel_lines fields columns number texts linked.NoLast = cause_line number (codes "nolast") [] ∷ []
panel_lines fields columns number texts (linked.NoCorrection cert) = cause_line number (codes "nocorrection") [] ∷ []
panel_lines fields columns number texts (linked.Change path weight cert gift) =
    reasons_of fields columns number texts (end_of (linked.Change path weight cert gift))
panel_lines fields columns number texts (linked.Stopped proof) = reasons_of fields columns number texts (end_of (linked.Stopped proof))

-- the lines of the records from this number on, in order
abbrev pub panel_lines_from : List Field → List ℕ → ℕ → List (List (List ℕ)) → List Linked → List (List (List ℕ))
panel_lines_from fields columns number (texts ∷ row_texts) (answer ∷ answers) =
    panel_lines fields columns number texts answer ++ panel_lines_from fields columns (suc number) row_texts answers
panel_lines_from fields columns number _ _ = []

-- the header and the lines of the records with these texts and answers, as csv writes them
abbrev pub reasons_to : PanelCase → List (List (List ℕ)) → List Linked → List ℕ
reasons_to panel row_texts answers =
    records_text (reasons_header ∷ panel_lines_from panel.survey.fields (columns_in panel) 0 row_texts answers)

-- the reasons file, of all records
abbrev pub panel_reasons : PanelCase → List Linked → List ℕ
panel_reasons panel answers = reasons_to panel panel.files.own.row_texts answers

-- ---- the proof

-- what the proof has of a record: the lines of its row, or that it has no last values
abbrev pub answer_text : Linked → List ℕ
answer_text linked.NoLast = codes "nolast\n"
answer_text (linked.Change path weight cert gift) = row_text (proof_of (linked.Change path weight cert gift))
answer_text (linked.NoCorrection cert) = row_text (proof_of (linked.NoCorrection cert))
answer_text (linked.Stopped proof) = row_text proof

-- the lines in front of the records': how much work a search may take, how many lines the rules have, and how many records there are
abbrev pub head_text : ℕ → ℕ → ℕ → List ℕ
head_text budget lines records =
    codes "fh-panel 1\nbudget " ++ (decimal budget
    ++ (codes "\nlines " ++ (decimal lines
    ++ (codes "\nrecords " ++ (decimal records ++ codes "\n")))))

-- the proof
abbrev pub panel_proof : PanelCase → ℕ → List Linked → List ℕ
panel_proof panel budget answers =
    head_text budget (length (normal_lines_of panel.survey)) (length answers) ++ (flat_map answer_text answers ++ codes "end\n")

-- ---- all of it

-- what is made of a panel within this budget: an answer for each record, in order, by the values that it has at all fields; and
-- these are what the files and the summary tell. It is whole where each record was given values
pub record IsPanelRelease (panel : PanelCase) (budget : ℕ) (release : PanelRelease) : Type 0 where
  pub answers : List Linked
  pub each : AllZip (IsAnswerAmong panel.survey panel.set budget) (both_rows panel.survey.fields panel.set panel.files) answers
  pub released : release.released.items ≡ panel_text panel answers
  pub reasons : release.reasons.items ≡ panel_reasons panel answers
  pub proof : release.proof.items ≡ panel_proof panel budget answers
  pub summary : release.summary.items ≡ summary_of panel.survey (ends_of answers)
  pub whole : release.whole ≡ not (list_any is_unresolved (ends_of answers))
