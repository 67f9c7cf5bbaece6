use Rattle.std.proofs.Common.{pos, ◌<ℤ◌, ℤ, FitsSigned, rules, subst, sym, arith}
use Rattle.std.proofs.lemmas.Int.{ints, to_z-of_z}
use mir.Syntax.{w128}
use Rattle.fraction128.proofs.Signs.{above-*}
use Rattle.donor_measure.proofs.bucket.bucket_of.Goals as goal

pub floor_quotient-requires-clause-some : goal.floor_quotient-requires-clause-some
floor_quotient-requires-clause-some c =
    let some : pos 0 <ℤ pos c.args.scale = omega (arith, ints, c.requires.scale) in
    let positive : pos 0 <ℤ c.unit.result = subst (λ (z : ℤ). pos 0 <ℤ z) (sym c.unit.ensures)
    (above-* c.args.x.now.denominator (pos c.args.scale) c.args.x.now.positive some) in
    let fits : FitsSigned w128 c.unit.result = search rules in
    subst (λ (z : ℤ). pos 0 <ℤ z) (sym (to_z-of_z w128 c.unit.result fits)) positive
