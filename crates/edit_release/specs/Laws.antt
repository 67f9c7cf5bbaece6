-- What the guarantee says of the records that are released, and what settles an edit.
use Rattle.std.specs.Prelude.{◌≡◌, ℕ, Bool, List, IfSome}
use Rattle.std.specs.List.{AllZip}
use Rattle.edit_model.specs.Parts.{SurveyParts}
use Rattle.edit_model.specs.Rows.{IsRow}
use Rattle.edit_model.specs.Surveys.{IsWellFormed}
use Rattle.edit_model.specs.declared.value.Value.{Value}
use Rattle.back_subst.specs.declared.gift.Gift.{Gift}
use Rattle.donor_book.specs.declared.claim.Entry.{Entry}
use Rattle.edit_report.specs.declared.end.RowEnd.{RowEnd}
use Rattle.record_text.specs.Sheets.{IsSheet, SheetParts}
use Rattle.record_ends.specs.Said.{IsCorrected}
use Rattle.record_editing.specs.declared.terms.Terms.{Terms}
use Rattle.edit_release.specs.Edits.{IsEditOf, Written}
use Rattle.edit_release.specs.Guarantee.{IsGuaranteed}

-- these values are a record of the survey, and a correction of the record that was read of which no other weighs less
pub record IsCorrectedAtLeastWeight (survey : SurveyParts) (row new : List Value) : Type 0 where
  pub fits : IsRow survey.fields new
  pub path : List Bool
  pub weight : ℕ
  pub corrected : IsCorrected survey row new path weight

-- each record that is released is a correction of least weight, by the guarantee alone
abbrev pub ReleasedLaw : Type 0
ReleasedLaw = (survey : SurveyParts) (sheet : SheetParts) (terms : Terms) (ends : List RowEnd) (history : List Entry)
    → IsGuaranteed survey sheet terms ends history
    → AllZip (λ row (end : RowEnd). IfSome end.gift (λ (gift : Gift). IsCorrectedAtLeastWeight survey row gift.row)) sheet.rows ends

-- two edits of one sheet that was read of a survey, on the same terms and with the same claims of donors, are one: each record ends
-- the same, and the same is written and printed
abbrev pub OneEditLaw : Type 0
OneEditLaw = (survey : SurveyParts) (sheet : SheetParts) (terms : Terms) (ends others : List RowEnd) (history : List Entry)
    (written again : Written) → IsWellFormed survey → ((bytes : List ℕ) × IsSheet survey.fields bytes sheet)
    → IsEditOf survey sheet terms ends history written → IsEditOf survey sheet terms others history again
    → (ends ≡ others) × (written ≡ again)
