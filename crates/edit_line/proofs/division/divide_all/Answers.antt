use Rattle.std.proofs.Common.{◌∙◌, FitsSigned, ap, int_div, rules, sym, to_z}
use Rattle.std.proofs.lemmas.Int.{to_z-of_z}
use Rattle.std.proofs.lemmas.List.Edits.{map_over_more}
use mir.Syntax.{w128}
use Rattle.edit_line.proofs.DivisionLaws.{quotients-one}
use Rattle.edit_line.proofs.division.divide_all.Goals as goal

pub returns-then-divisor-eq1 : goal.returns-then-divisor-eq1
returns-then-divisor-eq1 c = quotients-one c.args.numbers.now.items c.args.divisor (sym (to_z-of_z w128 c.args.divisor c.ranges.divisor)
    ∙ ap (λ n. to_z w128 n) c.if-divisor-eq1.true)

pub loop-i-preserved : goal.loop-i-preserved
loop-i-preserved c =
    let divisor_fits : FitsSigned w128 c.args.divisor = search rules in
    let number_fits : FitsSigned w128 c.index.result.now = search rules in
    let quotient_fits : FitsSigned w128 c.quotient.result = search rules in
    let before = simp to_z-of_z at c.loop-i.invariant in
    let is = simp to_z-of_z at c.quotient.ensures in
    let more = map_over_more (λ z. int_div z c.args.divisor) c.args.numbers.now.items c.loop-i.numbers.items c.loop-i.i c.index.result.now (search rules) before
    c.index.ensures in
    simp to_z-of_z (rw is more)
