use Rattle.std.proofs.Common.{Bool, List, [], ◌∷◌, Option, Some, None, IfSome, ℕ, subst}
use Rattle.std.specs.List.{AllZip}
use Rattle.edit_model.specs.Parts.{SurveyParts}
use Rattle.edit_model.specs.Rows.{IsRow}
use Rattle.edit_model.specs.declared.value.Value.{Value}
use Rattle.bound_cert.specs.declared.outcome.GiftFault.{GiftFault}
use Rattle.bound_cert.specs.declared.outcome.Outcome.{Outcome}
use Rattle.bound_cert.specs.declared.outcome.Outcome.TheVariants.{Budget, Change, Contradictory, Overflow}
use Rattle.back_subst.specs.declared.gift.Gift.{Gift}
use Rattle.donor_book.specs.declared.claim.Entry.{Entry}
use Rattle.record_text.specs.Sheets.{SheetParts}
use Rattle.edit_report.specs.declared.end.RowEnd.{RowEnd}
use Rattle.record_ends.specs.Said.{OutcomeSays, Says}
use Rattle.record_editing.specs.declared.terms.Terms.{Terms}
use Rattle.pruned_rules.specs.Pruned.{kept_edits}
use Rattle.edit_release.specs.Edits.{IsEditOf, Written}
use Rattle.edit_release.specs.Guarantee.{HasValuesOrStop, IsGuaranteed, IsGuaranteedEnd, usable_edits}
use Rattle.edit_release.specs.Laws.{IsCorrectedAtLeastWeight}

-- What an edit guarantees is over the lines of the rules that its verdicts keep.

-- what is guaranteed of ends has what they say
each-says : (survey : SurveyParts) (kept : List Bool) (budget : ℕ) (rows : List (List Value)) (ends : List RowEnd)
    → AllZip (IsGuaranteedEnd survey kept budget) rows ends → AllZip (Says survey (usable_edits survey kept) budget) rows ends
each-says survey kept budget [] [] each = tt
each-says survey kept budget [] (end ∷ ends) each = absurd each
each-says survey kept budget (row ∷ rows) [] each = absurd each
each-says survey kept budget (row ∷ rows) (end ∷ ends) each = (each.0.says, each-says survey kept budget rows ends each.1)

-- so what the ends say is over the edits that records are searched by
pub edit-says : (survey : SurveyParts) (sheet : SheetParts) (terms : Terms) (ends : List RowEnd) (history : List Entry) (written : Written)
    → IsEditOf survey sheet terms ends history written
    → AllZip (Says survey (kept_edits survey) terms.budget) sheet.rows ends
edit-says survey sheet terms ends history written edit =
    subst (λ (kept : List Bool). AllZip (Says survey (usable_edits survey kept) terms.budget) sheet.rows ends) edit.kept
    (each-says survey edit.guaranteed.kept terms.budget sheet.rows ends edit.guaranteed.each)

-- ---- each record that is released is a correction of least weight

module _ (survey : SurveyParts) (kept : List Bool) (budget : ℕ) where
  released-end : (row : List Value) (o : Outcome) (stop : Option GiftFault) (gift : Option Gift) → HasValuesOrStop o stop gift
      → IfSome gift (λ (g : Gift). IsRow survey.fields g.row) → OutcomeSays survey (usable_edits survey kept) budget row o gift
      → IfSome gift (λ (g : Gift). IsCorrectedAtLeastWeight survey row g.row)
  released-end row o stop None ends fits says = tt
  released-end row (Change path weight cert) stop (Some gift) ends fits says = record { fits = fits; path = path; weight = weight; corrected = says }
  released-end row (Budget path work) None (Some gift) ends fits says = absurd ends
  released-end row (Budget path work) (Some stop) (Some gift) ends fits says = absurd ends
  released-end row (Overflow path event) None (Some gift) ends fits says = absurd ends
  released-end row (Overflow path event) (Some stop) (Some gift) ends fits says = absurd ends
  released-end row (Contradictory cert) None (Some gift) ends fits says = absurd ends
  released-end row (Contradictory cert) (Some stop) (Some gift) ends fits says = absurd ends

  released-each : (rows : List (List Value)) (ends : List RowEnd) → AllZip (IsGuaranteedEnd survey kept budget) rows ends
      → AllZip (λ row (end : RowEnd). IfSome end.gift (λ (g : Gift). IsCorrectedAtLeastWeight survey row g.row)) rows ends
  released-each [] [] each = tt
  released-each [] (end ∷ ends) each = absurd each
  released-each (row ∷ rows) [] each = absurd each
  released-each (row ∷ rows) (end ∷ ends) each = (
    released-end row end.proof.outcome end.proof.gift end.gift each.0.ends each.0.fits each.0.says,
    released-each rows ends each.1,
  )

pub released-least : (survey : SurveyParts) (sheet : SheetParts) (terms : Terms) (ends : List RowEnd) (history : List Entry)
    → IsGuaranteed survey sheet terms ends history
    → AllZip (λ row (end : RowEnd). IfSome end.gift (λ (g : Gift). IsCorrectedAtLeastWeight survey row g.row)) sheet.rows ends
released-least survey sheet terms ends history guaranteed = released-each survey guaranteed.kept terms.budget sheet.rows ends guaranteed.each
