use Rattle.std.proofs.Common.{FitsSigned, get_or, pos, rules}
use Rattle.std.proofs.lemmas.Int.{to_z-of_z}
use mir.Syntax.{w128}
use Rattle.rule_report.proofs.SumLaws.{sum-more}
use Rattle.rule_report.proofs.sums.write_sum.Goals as goal

pub loop-place-preserved : goal.loop-place-preserved
loop-place-preserved c =
    let fits : FitsSigned w128 (get_or c.args.factors.now c.loop-place.place (pos 0)) = search rules in
    let told = simp (to_z-of_z w128 _ fits) at c.in_ok-first.ensures in
    sum-more c.args.numbers.now c.args.factors.now c.loop-place.place c.requires c.args.fields.now _ c.loop-place.first c.in_ok-first.first
    c.loop-place.text.items _ _ c.loop-place-test.true told.text told.first c.loop-place.invariant
