use Rattle.std.proofs.Common.{FitsSigned, ap, rules, ◌∙◌}
use Rattle.std.proofs.lemmas.Int.{to_z-of_z}
use lib.IntN.{neg_ℤ}
use mir.Syntax.{w128}
use Rattle.edit_line.specs.Shapes.{shape_of}
use Rattle.panel_link.proofs.PinParts.{number-made, number-parts, wholes-full}
use Rattle.panel_link.proofs.pins.number_pin.Goals as goal

pub divided-requires : goal.divided-requires
divided-requires c =
    let fits : FitsSigned w128 c.negative-constant.result = search rules in
    let above_fits : FitsSigned w128 c.numerator.result = search rules in
    let full = wholes-full c.args.survey.now.fields c.fields-fields.ensures.well_formed.fields in
    let value = c.negative-constant.ensures.value ∙ ap neg_ℤ (to_z-of_z w128 c.numerator.result above_fits ∙ c.numerator.ensures) in
    number-parts (shape_of c.args.survey.now.fields) c.args.field c.args.x full _ c.in_ok-sets.sets.items c.in_ok-factors.factors.items _
    c.of-shape.ensures c.in_ok-sets.ensures c.in_ok-factors.ensures (to_z-of_z w128 c.negative-constant.result fits ∙ value)

pub returns : goal.returns
returns c =
    let fits : FitsSigned w128 c.negative-constant.result = search rules in
    let above_fits : FitsSigned w128 c.numerator.result = search rules in
    let full = wholes-full c.args.survey.now.fields c.fields-fields.ensures.well_formed.fields in
    let value = c.negative-constant.ensures.value ∙ ap neg_ℤ (to_z-of_z w128 c.numerator.result above_fits ∙ c.numerator.ensures) in
    number-made (shape_of c.args.survey.now.fields) c.args.field c.args.x full _ c.in_ok-sets.sets.items c.in_ok-factors.factors.items _
    c.of-shape.ensures c.in_ok-sets.ensures c.in_ok-factors.ensures (to_z-of_z w128 c.negative-constant.result fits ∙ value) c.divided.result c.divided.ensures
