use Rattle.std.proofs.Common.{◌∙◌, ap, refl, sym}
use Rattle.edit_line.specs.Shapes.{place_in, shape_of}
use Rattle.edit_line.proofs.ShapeLaws.{same_fields}
use Rattle.back_subst.specs.inner.Sides.{bounds_told, ends_of}
use Rattle.back_subst.proofs.LineSteps.{ends-end, ends-more}
use Rattle.back_subst.proofs.line_bounds.bounds_of.Goals as goal

pub invariant_of-at-clause-stands : goal.invariant_of-at-clause-stands
invariant_of-at-clause-stands c =
    c.place_among-place.ensures ∙ ap (λ fs. place_in fs c.args.field)
    (same_fields c.numbers.result.now c.args.survey.now.fields (shape_of c.args.survey.now.fields) c.numbers.ensures refl)

pub loop-i-preserved : goal.loop-i-preserved
loop-i-preserved c =
    ends-more c.args.lines.now c.args.row.now c.loop-i.i c.args.field c.index-lines-i.result (ends_of c.loop-i.bounds) _ c.loop-i-test.true
    c.index-lines-i.is c.loop-i.invariant (ends_of c.in_ok-bounds.bounds)
    (sym (ap bounds_told c.in_ok-bounds.was) ∙ c.with_line.ensures)

pub returns : goal.returns
returns c = ends-end c.args.lines.now c.args.row.now c.loop-i.i c.args.field (ends_of c.loop-i.bounds) _ c.loop-i-test.false c.loop-i.invariant
