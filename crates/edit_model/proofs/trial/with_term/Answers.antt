use Rattle.std.proofs.Common.{◌≡◌, sym, ◌∙◌, FitsSigned, rules, to_z, of_z, w64}
use Rattle.std.proofs.lemmas.Int.{to_z-of_z}
use Rattle.std.proofs.lemmas.Result.{err_from_is_err_and}
use mir.Syntax.{w128}
use Rattle.fraction128.proofs.RatioLaws.{added-answered, scaled-answered}
use Rattle.edit_model.proofs.TrialSteps.{with_number, with_overflow}
use Rattle.edit_model.proofs.trial.with_term.Goals as goal

pub returns-in_ok-scale-in-Number : goal.returns-in_ok-scale-in-Number
returns-in_ok-scale-in-Number c =
    let factor_fits : FitsSigned w64 c.args.term.now.factor = search rules in
    let wide_fits : FitsSigned w128 c.from.result = search rules in
    let given : to_z w128 (of_z w128 c.from.result) ≡ c.args.term.now.factor = simp to_z-of_z (simp to_z-of_z at c.from.ensures) in
    with_number c.args.sum c.in-Number.number c.in_ok-scale-in-Number.field-0 c.args.term.now.factor _ _ c.scale.result c.add.result
    (sym c.value.ensures ∙ c.in-Number.is) given
    (scaled-answered c.in-Number.number _ c.scale.result c.scale.ensures.value c.scale.ensures.fits c.scale.ensures.overflow) c.in_ok-scale-in-Number.was
    (added-answered c.args.sum c.in_ok-scale-in-Number.field-0 c.add.result c.add.ensures.value c.add.ensures.fits c.add.ensures.overflow)

pub returns-in_err-scale-in-Number : goal.returns-in_err-scale-in-Number
returns-in_err-scale-in-Number c =
    let factor_fits : FitsSigned w64 c.args.term.now.factor = search rules in
    let wide_fits : FitsSigned w128 c.from.result = search rules in
    let given : to_z w128 (of_z w128 c.from.result) ≡ c.args.term.now.factor = simp to_z-of_z (simp to_z-of_z at c.from.ensures) in
    let out = err_from_is_err_and c.from_residual.result c.from_residual.ensures.1 in
    with_overflow c.args.sum c.in-Number.number c.args.term.now.factor _ _ c.scale.result c.from_residual.result _ out.0
    (sym c.value.ensures ∙ c.in-Number.is) given
    (scaled-answered c.in-Number.number _ c.scale.result c.scale.ensures.value c.scale.ensures.fits c.scale.ensures.overflow) c.in_err-scale-in-Number.was out.1
