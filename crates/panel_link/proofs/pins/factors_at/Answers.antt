use Rattle.std.proofs.Common.{ap, map, sym, ◌∙◌, arith}
use Rattle.std.proofs.lemmas.List.{take_all}
use Rattle.edit_line.proofs.ShapeLaws.{number_fields-same}
use Rattle.panel_link.specs.inner.PinLines.{own_factor}
use Rattle.std.proofs.lemmas.Grind.{common_steps}
use Rattle.panel_link.proofs.pins.factors_at.Goals as goal

pub returns : goal.returns
returns c =
    c.loop-other.invariant
    ∙ ap (map (own_factor c.args.field c.args.x))
    (take_all c.loop-other.other-index c.numbers-other-items.result.now c.loop-other-test.false ∙ c.numbers-other-items.ensures
    ∙ sym (number_fields-same c.args.survey.now.fields))

pub loop-other-preserved : goal.loop-other-preserved
loop-other-preserved c = grind (arith, common_steps)
