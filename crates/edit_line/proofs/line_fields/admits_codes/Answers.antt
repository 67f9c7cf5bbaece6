use Rattle.std.proofs.Common.{◌∙◌, ap, refl, sym}
use Rattle.edit_model.specs.RowPoints.{code_in}
use Rattle.edit_line.proofs.FactorLoops.{inside-end, inside-goes, inside-stops}
use Rattle.edit_line.proofs.line_fields.admits_codes.Goals as goal

pub returns-then-not-has_code : goal.returns-then-not-has_code
returns-then-not-has_code c =
    inside-stops c.args.sets.now c.args.fields.now c.args.row.now _ c.loop-place.place _ _ c.code_number.result c.loop-place-test.true c.requires.count
    refl refl (c.code_number.ensures ∙ ap code_in c.value.ensures) c.loop-place.invariant (sym c.if-not-has_code.ensures)

pub loop-place-preserved : goal.loop-place-preserved
loop-place-preserved c =
    inside-goes c.args.sets.now c.args.fields.now c.args.row.now _ c.loop-place.place _ _ c.code_number.result c.loop-place-test.true c.requires.count
    refl refl (c.code_number.ensures ∙ ap code_in c.value.ensures) c.loop-place.invariant (sym c.if-not-has_code.ensures)

pub returns : goal.returns
returns c = sym (inside-end c.args.sets.now c.args.fields.now c.args.row.now c.loop-place.place c.loop-place-test.false) ∙ c.loop-place.invariant
