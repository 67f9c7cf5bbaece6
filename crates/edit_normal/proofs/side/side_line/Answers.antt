use Rattle.std.proofs.Common.{FitsSigned, rules, ◌∙◌, w64}
use Rattle.std.proofs.lemmas.Int.{to_z-of_z}
use mir.Syntax.{w128}
use Rattle.edit_normal.proofs.Pushes.{side_line-is}
use Rattle.edit_normal.proofs.side.side_line.Goals as goal

pub returns : goal.returns
returns c =
    let fits : FitsSigned w128 c.with_sign-constant.result = search rules in
    let constant_fits : FitsSigned w64 c.args.linear.now.constant = search rules in
    let given = simp to_z-of_z at c.with_sign-constant.ensures.value in
    c.divided.ensures
    ∙ side_line-is _ c.args.fields.now c.in_ok-sets.sets.items c.args.sets.now c.numbers.result.now c.in_ok-factors.factors.items _ c.relation.result
    c.is_negative-negative.result c.args.linear.now c.args.side
    c.shape.ensures c.in_ok-sets.ensures.items c.numbers.ensures c.is_negative-negative.ensures c.in_ok-factors.ensures.factors
    (to_z-of_z w128 c.with_sign-constant.result fits ∙ given) c.relation.ensures
