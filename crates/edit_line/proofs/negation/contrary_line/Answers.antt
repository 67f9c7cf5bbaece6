use Rattle.std.proofs.Common.{◌∙◌, FitsSigned, ap, map, List, ℤ, rules}
use Rattle.std.proofs.lemmas.Int.{to_z-of_z}
use lib.IntN.{neg_ℤ}
use mir.Syntax.{w128}
use Rattle.edit_line.specs.Negations.{contrary_relation}
use Rattle.edit_line.proofs.NegationLines.{contrary-parts}
use Rattle.edit_line.proofs.negation.contrary_line.Goals as goal

pub over-requires : goal.over-requires
over-requires c =
    let fits : FitsSigned w128 c.negative.result = search rules in
    let kept : FitsSigned w128 c.constant.result = search rules in
    let value = c.negative.ensures.value ∙ ap (λ (z : ℤ). neg_ℤ z) (to_z-of_z w128 c.constant.result kept ∙ c.constant.ensures.constant) in
    contrary-parts c.args.line.now _ _ _ _ _ (c.sets-fit.ensures.line)
    c.shape.ensures (c.in_ok-sets.ensures.items ∙ c.requires) (c.in_ok-factors.ensures ∙ ap (λ (fs : List ℤ). map neg_ℤ fs) c.factors.ensures.factors)
    (to_z-of_z w128 c.negative.result fits ∙ value)
    (c.contrary_relation.ensures ∙ ap contrary_relation c.relation.ensures)
