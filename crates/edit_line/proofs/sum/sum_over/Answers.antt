use Rattle.std.proofs.Common.{◌≡◌, FitsSigned, get_or, ℤ, pos, Err, refl, sym, ap, ◌∙◌, rules, arith}
use Rattle.std.proofs.lemmas.Int.{to_z-of_z}
use mir.Syntax.{w128}
use Rattle.fraction128.specs.Formulas.{ratio_of}
use Rattle.edit_line.specs.Sums.{sum_from, whole}
use Rattle.edit_line.proofs.SumSteps.{overflow-there, sum-more}
use Rattle.std.proofs.lemmas.Grind.{common_steps}
use Rattle.edit_line.proofs.sum.sum_over.Goals as goal

pub returns-in_err-sum-clause-overflow : goal.returns-in_err-sum-clause-overflow
returns-in_err-sum-clause-overflow c =
    let i = c.loop-place.place in
    let fits : FitsSigned w128 (get_or c.args.factors.now i (pos 0)) = search rules in
    let constant_fits : FitsSigned w128 c.args.constant = search rules in
    let out : sum_from c.args.fields.now c.args.factors.now c.args.row.now (whole c.args.constant) ≡ Err c.in_err-sum.field-0.0.field =
    ap (λ (k : ℤ). sum_from c.args.fields.now c.args.factors.now c.args.row.now (whole k)) (sym (to_z-of_z w128 c.args.constant constant_fits))
    ∙ overflow-there c.args.fields.now c.args.factors.now c.args.row.now (ratio_of c.loop-place.sum) _ i _ _ c.loop-place-test.true c.requires.count refl
    (to_z-of_z w128 _ fits) c.loop-place.invariant c.in_err-sum.ensures.overflow.1
    ∙ ap (λ n. Err n) (sym c.in_err-sum.ensures.overflow.0) in
    search rules

pub loop-place-preserved : goal.loop-place-preserved
loop-place-preserved c =
    let i = c.loop-place.place in
    let fits : FitsSigned w128 (get_or c.args.factors.now i (pos 0)) = search rules in
    sum-more c.args.fields.now c.args.factors.now c.args.row.now (ratio_of c.loop-place.sum) _ i _ _ c.loop-place-test.true c.requires.count refl
    (to_z-of_z w128 _ fits) (ratio_of c.in_ok-sum.sum) c.loop-place.invariant c.in_ok-sum.ensures.sum

pub returns-clause-sum : goal.returns-clause-sum
returns-clause-sum c = grind (arith, common_steps)
