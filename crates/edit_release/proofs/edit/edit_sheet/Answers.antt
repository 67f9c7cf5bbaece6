use Rattle.std.proofs.Common.{◌∙◌, subst}
use Rattle.std.specs.List.{AllZip}
use Rattle.std.proofs.lemmas.Result.{IfOk-weaker}
use Rattle.edit_line.specs.EditSets.{EditsParts}
use Rattle.record_text.proofs.SheetLaws.{rows_are_records}
use Rattle.record_ends.specs.Ends.{IsEndOf}
use Rattle.record_ends.specs.Said.{Says}
use Rattle.edit_release.specs.Releases.{HasGuarantee, IsReleaseOf}
use Rattle.edit_release.proofs.edit.edit_sheet.Goals as goal

pub edit_records-requires-clause-rows : goal.edit_records-requires-clause-rows
edit_records-requires-clause-rows g c κs within = rows_are_records c.args.survey.fields c.requires.read.0 c.args.sheet c.requires.read.1

pub edit_records-requires-clause-same : goal.edit_records-requires-clause-same
edit_records-requires-clause-same g c κs within = c.in_ok-edits.ensures.same

pub edit_records-requires-clause-plain : goal.edit_records-requires-clause-plain
edit_records-requires-clause-plain g c κs within = c.requires.plain

pub edit_records-requires-clause-measures : goal.edit_records-requires-clause-measures
edit_records-requires-clause-measures g c κs within = c.requires.measures

pub edit_records-requires-clause-yardsticks : goal.edit_records-requires-clause-yardsticks
edit_records-requires-clause-yardsticks g c κs within = c.requires.yardsticks

pub edit_records-requires-clause-field : goal.edit_records-requires-clause-field
edit_records-requires-clause-field g c κs within = c.requires.field

pub edit_records-requires-clause-workers : goal.edit_records-requires-clause-workers
edit_records-requires-clause-workers g c κs within = c.requires.workers

pub release_of-requires-clause-read : goal.release_of-requires-clause-read
release_of-requires-clause-read g c =
    let made = c.in_ok-edited.ensures in
    let of = c.of.ensures in
    rw (of.survey ∙ made.survey, of.sheet ∙ made.sheet) c.requires.read

pub release_of-requires-clause-terms : goal.release_of-requires-clause-terms
release_of-requires-clause-terms g c = c.requires.terms

pub release_of-requires-clause-verdicts : goal.release_of-requires-clause-verdicts
release_of-requires-clause-verdicts g c =
    let made = c.in_ok-edited.ensures in
    let of = c.of.ensures in
    rw (of.survey ∙ made.survey) c.in_ok-edits.ensures.verdicts

pub release_of-requires-clause-ends : goal.release_of-requires-clause-ends
release_of-requires-clause-ends g c =
    let made = c.in_ok-edited.ensures in
    let of = c.of.ensures in
    let EndAll : EditsParts → Type 0 =
    λ edits. AllZip (IsEndOf c.args.survey edits c.args.terms.budget c.args.sheet.rows) c.args.sheet.rows c.in_ok-edited.edited.ends.items in
    rw (of.survey ∙ made.survey, of.sheet ∙ made.sheet, of.ends) (subst EndAll c.in_ok-edits.ensures.edits made.ends)

pub release_of-requires-clause-donations : goal.release_of-requires-clause-donations
release_of-requires-clause-donations g c =
    let made = c.in_ok-edited.ensures in
    let of = c.of.ensures in
    rw (of.survey ∙ made.survey, of.sheet ∙ made.sheet, of.ends, of.history) made.donations

pub release_of-requires-clause-say : goal.release_of-requires-clause-say
release_of-requires-clause-say g c =
    let made = c.in_ok-edited.ensures in
    let of = c.of.ensures in
    let SaysAll : EditsParts → Type 0 = λ edits. AllZip (Says c.args.survey edits c.args.terms.budget) c.args.sheet.rows c.in_ok-edited.edited.ends.items in
    rw (of.survey ∙ made.survey, of.sheet ∙ made.sheet, of.ends) (subst SaysAll c.in_ok-edits.ensures.edits made.say)

pub returns-clause-guaranteed : goal.returns-clause-guaranteed
returns-clause-guaranteed g c =
    let made = c.in_ok-edited.ensures in
    let of = c.of.ensures in
    IfOk-weaker c.release_of.result _ (HasGuarantee c.args.survey c.args.sheet c.args.terms)
    (λ release is. rw (← (of.survey ∙ made.survey), ← (of.sheet ∙ made.sheet)) is) c.release_of.ensures.guaranteed

pub returns-clause-edit : goal.returns-clause-edit
returns-clause-edit g c =
    let made = c.in_ok-edited.ensures in
    let of = c.of.ensures in
    let survey = of.survey ∙ made.survey in
    let sheet = of.sheet ∙ made.sheet in
    IfOk-weaker c.release_of.result _ (IsReleaseOf c.args.survey c.args.sheet c.args.terms c.args.workers)
    (λ release is. rw (← survey, ← sheet) (is c.args.workers (rw (survey, sheet, of.ends, of.history) made.order))) c.release_of.ensures.edit
