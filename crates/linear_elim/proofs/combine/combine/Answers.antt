use Rattle.std.proofs.Common.{◌∙◌, FitsSigned, ap, refl, rules}
use Rattle.std.proofs.lemmas.Int.{to_z-of_z}
use mir.Syntax.{w128}
use Rattle.edit_line.specs.Lines.{LineParts}
use Rattle.edit_line.proofs.DivisionLaws.{shape-reduced}
use Rattle.linear_elim.proofs.CombineSteps.{combination-leaves, combination-stands}
use Rattle.linear_elim.proofs.combine.combine.Goals as goal

pub returns-in-Some-clause-exact : goal.returns-in-Some-clause-exact
returns-in-Some-clause-exact c =
    let a_fits : FitsSigned w128 c.factor.result = search rules in
    let b_fits : FitsSigned w128 c.factor-2.result = search rules in
    let m_fits : FitsSigned w128 c.of-by.result.first = search rules in
    let n_fits : FitsSigned w128 c.of-by.result.second = search rules in
    let by = simp to_z-of_z at c.of-by.ensures in
    let told = simp to_z-of_z at c.in-Some.ensures in
    combination-leaves c.args.s.now c.args.t.now c.args.column.now.field c.factor.result c.factor-2.result c.of-by.result.first c.of-by.result.second
    c.factor.ensures.value c.factor-2.ensures.value by.first by.second c.in-Some.place told.place

pub returns-in-None-clause-exact : goal.returns-in-None-clause-exact
returns-in-None-clause-exact c =
    let a_fits : FitsSigned w128 c.factor.result = search rules in
    let b_fits : FitsSigned w128 c.factor-2.result = search rules in
    let m_fits : FitsSigned w128 c.of-by.result.first = search rules in
    let n_fits : FitsSigned w128 c.of-by.result.second = search rules in
    let g_fits : FitsSigned w128 c.reduce_numbers-g.result = search rules in
    let by = simp to_z-of_z at c.of-by.ensures in
    let told = simp to_z-of_z at c.in-None.ensures in
    combination-stands c.args.s.now c.args.t.now c.args.column.now.field c.factor.result c.factor-2.result c.of-by.result.first c.of-by.result.second
    c.factor.ensures.value c.factor-2.ensures.value by.first by.second
    c.write_sum.new.self c.reduce_numbers-g.new.self _ _ c.reduce_numbers-g.result _ told.place (told.sum refl) c.reduce_numbers-g.ensures.line
    c.reduce_numbers-g.ensures.divisor
    (to_z-of_z w128 c.of-by.result.first m_fits) (to_z-of_z w128 c.of-by.result.second n_fits) (to_z-of_z w128 c.reduce_numbers-g.result g_fits)

pub returns-in-None-clause-over : goal.returns-in-None-clause-over
returns-in-None-clause-over c = ap (λ (l : LineParts). l.shape) c.reduce_numbers-g.ensures.line ∙ shape-reduced c.write_sum.new.self ∙ c.in-None.ensures.shape
