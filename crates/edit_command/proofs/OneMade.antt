-- The files, the words and the claims of donors settle an edit.
use Rattle.std.proofs.Common.{◌≡◌, ◌∙◌, ℕ, List, Option, Some, inl, inr, subst, sym}
use Rattle.edit_model.specs.Parts.{SurveyParts}
use Rattle.donor_book.specs.declared.claim.Entry.{Entry}
use Rattle.record_text.specs.Sheets.{SheetParts}
use Rattle.edit_report.specs.declared.end.RowEnd.{RowEnd}
use Rattle.edit_release.specs.Edits.{IsEditOf}
use Rattle.edit_release.proofs.OneEdit.{one-edit}
use Rattle.edit_command.specs.Edits.{IsStatusOf, terms_asked}
use Rattle.edit_command.specs.Laws.{OneMadeLaw}
use Rattle.run_parts.specs.Readings.{HoldsRecords}
use Rattle.run_parts.specs.declared.status.Status.{Status}
use Rattle.run_parts.proofs.HeldLaws.{one_sheet, one_survey}
use Rattle.edit_command.specs.ClassFields.{IsClassAsked}
use Rattle.edit_command.proofs.ClassLaws.{one_asked}

-- records that end so have one status
one-status : (ends : List RowEnd) (answer other : Status) → IsStatusOf ends answer → IsStatusOf ends other → answer ≡ other
one-status ends answer other (inl (is, all)) (inl (also, given)) = is ∙ sym also
one-status ends answer other (inl (is, all)) (inr (also, not)) = absurd (not all)
one-status ends answer other (inr (is, none)) (inl (also, given)) = absurd (none given)
one-status ends answer other (inr (is, none)) (inr (also, not)) = is ∙ sym also

pub one-made : OneMadeLaw
one-made asked class files answer other written again made too same =
    let survey = one_survey files asked.names.rules made.survey too.survey made.rules too.rules in
    let records = subst (λ (s : SurveyParts). HoldsRecords (Some files) asked.names.records s.fields made.sheet) survey made.records in
    let classes = subst (λ (s : SurveyParts). IsClassAsked s.fields class made.class_field) survey made.classes in
    let sheet = one_sheet files asked.names.records too.survey.fields made.sheet too.sheet records too.records in
    let field = one_asked too.survey.fields too.formed.names class made.class_field too.class_field classes too.classes in
    let ends = made.edit.ends in
    let of_survey = subst (λ (s : SurveyParts). IsEditOf s made.sheet (terms_asked asked made.class_field) ends made.edit.history written)
    survey made.edit.edit in
    let of_sheet = subst (λ (s : SheetParts). IsEditOf too.survey s (terms_asked asked made.class_field) ends made.edit.history written)
    sheet of_survey in
    let of_field = subst (λ (f : Option ℕ). IsEditOf too.survey too.sheet (terms_asked asked f) ends made.edit.history written) field of_sheet in
    let terms = terms_asked asked too.class_field in
    let edit = subst (λ (h : List Entry). IsEditOf too.survey too.sheet terms ends h written) same of_field in
    let one = one-edit too.survey too.sheet terms ends too.edit.ends too.edit.history written again too.formed
    (too.records.bytes, too.records.claim.read) edit too.edit.edit in
    let ended = subst (λ (es : List RowEnd). IsStatusOf es answer) one.0 made.edit.ended in
    (one-status too.edit.ends answer other ended too.edit.ended, one.1)
