use Rattle.std.proofs.Common.{◌≡◌, FitsSigned, rules, refl, to_z, of_z, w64}
use Rattle.std.proofs.lemmas.Int.{to_z-of_z}
use mir.Syntax.{w128}
use Rattle.edit_model.proofs.trial.constant_of.Goals as goal

pub returns : goal.returns
returns c =
    let constant_fits : FitsSigned w64 c.args.linear.now.constant = search rules in
    let wide_fits : FitsSigned w128 c.from.result = search rules in
    let given : to_z w128 (of_z w128 c.from.result) ≡ c.args.linear.now.constant = simp to_z-of_z (simp to_z-of_z at c.from.ensures) in
    rw (c.whole.ensures.numerator, c.whole.ensures.denominator, given) refl
