use mir.Syntax.{w128}
use Rattle.std.proofs.Common.{◌^◌, ◌≡◌, ◌∙◌, FitsSigned, ◌≤◌, ℤ, unsigned_abs, rules, subst, sym}
use Rattle.std.proofs.lemmas.Int.{to_z-of_z}
use Rattle.std.specs.Int.{int_max, int_min}
use Rattle.release_figures.proofs.RangeLaws.{greater_of, lesser_of}
use Rattle.release_figures.proofs.ranges.range_over.Goals as goal

pub invariant_of-result-clause-least_small : goal.invariant_of-result-clause-least_small
invariant_of-result-clause-least_small c =
    let one_fits : FitsSigned w128 c.args.one.least = search rules in
    let other_fits : FitsSigned w128 c.args.other.least = search rules in
    let fits : FitsSigned w128 c.min.result = search rules in
    let is : c.min.result ≡ int_min c.args.one.least c.args.other.least = simp to_z-of_z at c.min.ensures.value in
    subst (λ (z : ℤ). unsigned_abs z ≤ 10 ^ 36) (sym (to_z-of_z w128 c.min.result fits ∙ is))
    (lesser_of (λ (z : ℤ). unsigned_abs z ≤ 10 ^ 36) c.args.one.least c.args.other.least c.args.one.least_small c.args.other.least_small)

pub invariant_of-result-clause-greatest_small : goal.invariant_of-result-clause-greatest_small
invariant_of-result-clause-greatest_small c =
    let one_fits : FitsSigned w128 c.args.one.greatest = search rules in
    let other_fits : FitsSigned w128 c.args.other.greatest = search rules in
    let fits : FitsSigned w128 c.max.result = search rules in
    let is : c.max.result ≡ int_max c.args.one.greatest c.args.other.greatest = simp to_z-of_z at c.max.ensures.value in
    subst (λ (z : ℤ). unsigned_abs z ≤ 10 ^ 36) (sym (to_z-of_z w128 c.max.result fits ∙ is))
    (greater_of (λ (z : ℤ). unsigned_abs z ≤ 10 ^ 36) c.args.one.greatest c.args.other.greatest c.args.one.greatest_small c.args.other.greatest_small)
