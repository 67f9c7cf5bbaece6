use Rattle.std.proofs.Common.{◌≡◌, false, if◌then◌else◌, List, ap, sym, ◌∙◌}
use Rattle.edit_line.specs.Lines.{LineParts, is_equal}
use Rattle.edit_line.specs.Reductions.{reduce_derived}
use Rattle.edit_line.specs.Shapes.{shape_of}
use Rattle.edit_model.specs.declared.value.Value.{Value}
use Rattle.redundancy.specs.Verdicts.{negation_case, verdict_of, verdict_on}
use Rattle.redundancy.specs.declared.verdict.Verdict.TheVariants.{Kept}
use Rattle.redundancy.specs.declared.verdict.Why.TheVariants.{Equality}
use Rattle.redundancy.specs.inner.Turns.{lines_verdict}
use Rattle.redundancy.proofs.BaseLaws.{base-shape, in-lines, negation-verdict, same-line}
use Rattle.redundancy.proofs.pruning.verdict_on.Goals as goal

pub verdict_of-requires-clause-over : goal.verdict_of-requires-clause-over
verdict_of-requires-clause-over c =
    base-shape c.args.task.now.survey.now c.fields-well_formed.ensures.well_formed.fields c.args.task.now.lines.now c.requires.over c.args.left.now
    c.index-lines-place.result (in-lines c.args.task.now.lines.now c.args.place c.index-lines-place.result c.requires.place c.index-lines-place.is)
    c.in_ok-base.base.items c.in_ok-base.ensures.base c.in_ok-base.ensures.lines

pub returns : goal.returns
returns c = λ line at.
    let survey = c.args.task.now.survey.now in
    let lines = c.args.task.now.lines.now in
    let place = c.index-lines-place.result in
    let same : place ≡ line = same-line lines c.args.place place line c.index-lines-place.is at in
    let other : is_equal place.relation ≡ false = ap is_equal (sym c.relation.ensures) ∙ sym c.is_equal.ensures ∙ c.if-is_equal.false in
    c.in_ok-verdict.ensures
    ∙ ap (λ (row : List Value). lines_verdict (shape_of survey.fields) row c.args.task.now.budget (reduce_derived c.in_ok-base.base.items)) c.requires.values
    ∙ negation-verdict survey c.fields-well_formed.ensures.well_formed.fields lines c.requires.over c.args.left.now place
    (in-lines lines c.args.place place c.requires.place c.index-lines-place.is)
    c.in_ok-base.base.items c.in_ok-base.ensures.base c.in_ok-base.ensures.lines c.args.task.now.budget
    ∙ ap (λ b. if b then Kept Equality else verdict_of (negation_case survey lines c.args.left.now place) c.args.task.now.budget) (sym other)
    ∙ ap (λ (l : LineParts). verdict_on survey lines c.args.task.now.budget c.args.left.now l) same
