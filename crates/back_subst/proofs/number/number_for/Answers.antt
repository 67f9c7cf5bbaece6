use Rattle.std.proofs.Common.{◌≡◌, ◌∙◌, Err, option_copied, sym, ap, subst}
use Rattle.std.specs.Arc.{arc_value}
use Rattle.fraction128.specs.Formulas.{Ratio}
use Rattle.edit_line.specs.Lines.{HaveShape}
use Rattle.edit_line.specs.Reductions.{lines_of}
use Rattle.edit_line.specs.Shapes.{shape_of}
use Rattle.back_subst.specs.Given.{number_in, target_of}
use Rattle.back_subst.specs.NumberWalk.{number_result}
use Rattle.back_subst.specs.inner.Sides.{number_told}
use Rattle.linear_elim.proofs.ShapeLaws.{derived-shape}
use Rattle.back_subst.proofs.SystemLines.{system-lines}
use Rattle.back_subst.proofs.number.number_for.Goals as goal

pub nearest_of-requires-clause-shape : goal.nearest_of-requires-clause-shape
nearest_of-requires-clause-shape g c =
    let s = c.system-2.result.now in
    let made = system-lines s (arc_value c.args.task.now.edits.now) c.args.next.left c.lines.result.now c.lines.ensures.lines
    (ap (λ t. t.edits) c.system-2.ensures ∙ c.in-Ok.ensures.edits) (ap (λ t. t.fields) c.system-2.ensures ∙ c.in-Ok.ensures.fields)
    c.lines.ensures.system c.lines.ensures.over in
    derived-shape (shape_of c.args.task.now.survey.now.fields) c.lines.result.now
    (subst (λ sh. HaveShape sh (lines_of c.lines.result.now)) c.requires.shape made.1)

pub returns-in-Ok-nearest_of-clause-number : goal.returns-in-Ok-nearest_of-clause-number
returns-in-Ok-nearest_of-clause-number g c =
    let s = c.system-2.result.now in
    let row = c.args.row.now in
    let made = system-lines s (arc_value c.args.task.now.edits.now) c.args.next.left c.lines.result.now c.lines.ensures.lines
    (ap (λ t. t.edits) c.system-2.ensures ∙ c.in-Ok.ensures.edits) (ap (λ t. t.fields) c.system-2.ensures ∙ c.in-Ok.ensures.fields)
    c.lines.ensures.system c.lines.ensures.over in
    ap (λ ls. number_result ls row c.args.next.field (number_in (target_of (option_copied c.args.task.now.donor) c.args.next.field))) (sym made.0)
    ∙ ap (λ (t : Ratio). number_result (lines_of c.lines.result.now) row c.args.next.field t)
    (sym (c.number_of-target.ensures ∙ ap number_in c.target_of.ensures)) ∙ sym c.nearest_of.ensures ∙ ap number_told c.in-Ok-nearest_of.is

pub returns-clause-bound : goal.returns-clause-bound
returns-clause-bound g c = λ f line told.
    let s = c.system-2.result.now in
    let row = c.args.row.now in
    let made = system-lines s (arc_value c.args.task.now.edits.now) c.args.next.left c.lines.result.now c.lines.ensures.lines
    (ap (λ t. t.edits) c.system-2.ensures ∙ c.in-Ok.ensures.edits) (ap (λ t. t.fields) c.system-2.ensures ∙ c.in-Ok.ensures.fields)
    c.lines.ensures.system c.lines.ensures.over in
    let same_line : c.in-Err.line ≡ line = cc in (
      cc,
      ap (λ ls. number_result ls row c.args.next.field (number_in (target_of (option_copied c.args.task.now.donor) c.args.next.field))) (sym made.0)
          ∙ ap (λ (t : Ratio). number_result (lines_of c.lines.result.now) row c.args.next.field t)
          (sym (c.number_of-target.ensures ∙ ap number_in c.target_of.ensures)) ∙ sym c.nearest_of.ensures ∙ ap number_told c.in-Err.is
          ∙ ap (λ n. Err n) same_line,
    )
