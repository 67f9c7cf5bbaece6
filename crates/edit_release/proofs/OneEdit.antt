-- The claims of donors settle an edit.
use Rattle.std.proofs.Common.{◌≡◌, ◌∙◌, ℕ, suc, List, [], ◌∷◌, Option, Some, slice_get, ap, refl, sym}
use Rattle.std.specs.List.{AllByRecursion, AllZip}
use Rattle.edit_model.specs.Parts.{SurveyParts}
use Rattle.edit_model.specs.Rows.{IsRow}
use Rattle.edit_model.specs.Surveys.{IsWellFormed}
use Rattle.edit_model.specs.declared.value.Value.{Value}
use Rattle.record_text.proofs.SheetLaws.{rows_are_records}
use Rattle.edit_report.specs.Reasons.{reasons_text_of}
use Rattle.edit_report.specs.Released.{released_text_of}
use Rattle.edit_report.specs.Summaries.{summary_lines}
use Rattle.edit_report.specs.declared.end.RowEnd.{RowEnd}
use Rattle.proof_grammar.specs.ProofLines.{proof_text}
use Rattle.pruned_rules.specs.Pruned.{kept_edits}
use Rattle.record_ends.specs.Ends.{IsEndOf}
use Rattle.record_ends.specs.Givings.{donor_in}
use Rattle.record_ends.proofs.OneEnd.{one-end}
use Rattle.edit_release.specs.Edits.{written_proof}
use Rattle.edit_release.specs.Laws.{OneEditLaw}
use Rattle.edit_release.proofs.CaseLaws.{rule-case}

-- each end has the donor of its number
abbrev HaveDonors : (ℕ → Option ℕ) → List RowEnd → Type 0
HaveDonors donors ends = (i : ℕ) (end : RowEnd) → slice_get ends i ≡ Some end → end.donor ≡ donors i

-- records of the survey that have the same donors end the same
module _ (survey : SurveyParts) (formed : IsWellFormed survey) (budget : ℕ) (all : List (List Value)) where
  abbrev AreEnds : List (List Value) → List RowEnd → Type 0
  AreEnds rows ends = AllZip (IsEndOf survey (kept_edits survey) budget all) rows ends

  one-each : (donors : ℕ → Option ℕ) (rows : List (List Value)) (ends others : List RowEnd)
      → AllByRecursion (IsRow survey.fields) rows → HaveDonors donors ends → HaveDonors donors others
      → AreEnds rows ends → AreEnds rows others → ends ≡ others
  one-each donors [] [] [] are given too each other = refl
  one-each donors [] [] (o ∷ others) are given too each other = absurd other
  one-each donors [] (end ∷ ends) others are given too each other = absurd each
  one-each donors (row ∷ rows) [] others are given too each other = absurd each
  one-each donors (row ∷ rows) (end ∷ ends) [] are given too each other = absurd other
  one-each donors (row ∷ rows) (end ∷ ends) (o ∷ others) are given too each other =
      let is = rule-case survey row formed are.0 in
      let donor = given 0 end refl ∙ sym (too 0 o refl) in
      let same = one-end survey (kept_edits survey) budget all row end o is each.0 other.0 donor in
      let later : ℕ → Option ℕ = λ i. donors (suc i) in
      let rest = one-each later rows ends others are.1 (λ i e at. given (suc i) e at) (λ i e at. too (suc i) e at) each.1 other.1 in
      λ i. same i ∷ rest i

pub one-edit : OneEditLaw
one-edit survey sheet terms ends others history written again formed read edit other =
    let are = rows_are_records survey.fields read.0 sheet read.1 in
    let donors = donor_in history in
    let same = one-each survey formed terms.budget sheet.rows donors sheet.rows ends others are edit.donations.given other.donations.given
    edit.each other.each in
    let proof = edit.proof ∙ ap (λ (es : List RowEnd). proof_text (written_proof survey terms es history)) same ∙ sym other.proof in
    let reasons = edit.reasons ∙ ap (λ (es : List RowEnd). reasons_text_of survey sheet es) same ∙ sym other.reasons in
    let released = edit.released ∙ ap (λ (es : List RowEnd). released_text_of survey sheet es) same ∙ sym other.released in
    let summary = edit.summary ∙ ap (λ (es : List RowEnd). summary_lines survey es history) same ∙ sym other.summary in
    (same, λ i. record { proof = proof i; reasons = reasons i; released = released i; summary = summary i })
