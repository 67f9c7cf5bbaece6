use Rattle.std.proofs.Common.{◌∙◌, FitsSigned, rules, sym}
use Rattle.std.proofs.lemmas.Int.{to_z-of_z}
use mir.Syntax.{w128}
use Rattle.edit_line.proofs.ListPairs.{sum-formed, unformed-first, unformed-second}
use Rattle.edit_line.proofs.line_sum.sum_of_products.Goals as goal

pub returns-in-Some-product : goal.returns-in-Some-product
returns-in-Some-product c =
    let m_fits = c.ranges.m in
    let n_fits = c.ranges.n in
    let a_fits = c.ranges.a in
    let b_fits = c.ranges.b in
    let first_fits : FitsSigned w128 c.in-Some.first = search rules in
    let second_fits : FitsSigned w128 c.in-Some-product.second = search rules in
    let first_is = simp to_z-of_z at c.product.ensures in
    let second_is = simp to_z-of_z at c.product-in-Some.ensures in
    let sum_is = simp to_z-of_z at c.sum.ensures in
    sum-formed c.args.m c.args.n c.args.a c.args.b c.in-Some.first c.in-Some-product.second _ _ _ first_is c.in-Some.is second_is c.in-Some-product.is sum_is

pub returns-in-None : goal.returns-in-None
returns-in-None c =
    let m_fits = c.ranges.m in
    let n_fits = c.ranges.n in
    let a_fits = c.ranges.a in
    let b_fits = c.ranges.b in
    let first_is = simp to_z-of_z at c.product.ensures in
    unformed-first _ _ _ _ (sym first_is ∙ c.in-None.is)

pub returns-in-None-product : goal.returns-in-None-product
returns-in-None-product c =
    let m_fits = c.ranges.m in
    let n_fits = c.ranges.n in
    let a_fits = c.ranges.a in
    let b_fits = c.ranges.b in
    let second_is = simp to_z-of_z at c.product-in-Some.ensures in
    unformed-second _ _ _ _ _ (sym second_is ∙ c.in-None-product.is)
