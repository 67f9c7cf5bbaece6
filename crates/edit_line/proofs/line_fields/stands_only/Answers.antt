use Rattle.std.proofs.Common.{◌≡◌, ◌||◌, ◌∙◌, true, get_or, pos, to_z, FitsSigned, rules, sym, ap}
use Rattle.std.specs.Ordering.{int_eq}
use Rattle.std.proofs.lemmas.Int.{to_z-of_z}
use mir.Syntax.{w128}
use Rattle.edit_model.specs.FieldSets.{has_number}
use Rattle.edit_line.proofs.FactorLoops.{field-may, only-more, zero-may}
use Rattle.edit_line.proofs.line_fields.stands_only.Goals.{else-factors-place-ne0-via-then-factors-place-ne0+else-not-has}
use Rattle.edit_line.proofs.line_fields.stands_only.Goals.{else-factors-place-ne0-via-else-factors-place-ne0}
use Rattle.edit_line.proofs.line_fields.stands_only.Goals as goal

pub loop-place-preserved : goal.loop-place-preserved
loop-place-preserved c =
    let factor = get_or c.args.factors.now c.loop-place.place (pos 0) in
    let field = get_or c.args.fields.now c.loop-place.place 0 in
    let fits : FitsSigned w128 factor = search rules in
    let is : (int_eq factor (pos 0) || has_number c.args.set field) ≡ true = elim c.else-factors-place-ne0.branch [
      | else-factors-place-ne0-via-then-factors-place-ne0+else-not-has w ↦ field-may factor _ (sym w.has.ensures ∙ w.if-not-has.false)
      | else-factors-place-ne0-via-else-factors-place-ne0 w ↦ zero-may factor _ (sym (to_z-of_z w128 factor fits) ∙ ap (to_z w128) w.if-factors-place-ne0.false)
    ] in
    only-more (has_number c.args.set) c.args.fields.now c.args.factors.now c.loop-place.place c.requires.count c.loop-place-test.true is
    ∙ c.loop-place.invariant
