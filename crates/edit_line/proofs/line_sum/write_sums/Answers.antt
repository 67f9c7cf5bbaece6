use Rattle.std.proofs.Common.{◌∙◌, FitsSigned, get_or, pos, rules, sym, arith}
use Rattle.std.proofs.lemmas.Int.{to_z-of_z}
use Rattle.std.proofs.lemmas.List.Elements.{All-set}
use Rattle.fraction128.specs.Range.{InRange}
use mir.Syntax.{w128}
use Rattle.edit_line.proofs.ListPairs.{combined-more, overflow-there}
use Rattle.std.proofs.lemmas.Grind.{common_steps}
use Rattle.edit_line.proofs.line_sum.write_sums.Goals as goal

pub returns-in-None-clause-place : goal.returns-in-None-clause-place
returns-in-None-clause-place c =
    let i = c.loop-i.i in
    let m_fits = c.ranges.m in
    let n_fits = c.ranges.n in
    let a_fits : FitsSigned w128 (get_or c.args.first.now i (pos 0)) = search rules in
    let b_fits : FitsSigned w128 (get_or c.args.second.now i (pos 0)) = search rules in
    let is = simp to_z-of_z at c.sum_of_products.ensures in
    let before = simp to_z-of_z at c.loop-i.invariant in
    overflow-there c.args.m c.args.n c.args.first.now c.args.second.now (c.requires.first ∙ sym c.requires.second) i _ c.loop-i-test.true is c.in-None.is
    before.place

pub loop-i-preserved : goal.loop-i-preserved
loop-i-preserved c =
    let i = c.loop-i.i in
    let m_fits = c.ranges.m in
    let n_fits = c.ranges.n in
    let a_fits : FitsSigned w128 (get_or c.args.first.now i (pos 0)) = search rules in
    let b_fits : FitsSigned w128 (get_or c.args.second.now i (pos 0)) = search rules in
    let z_fits : FitsSigned w128 c.in-Some.sum = search rules in
    let is = simp to_z-of_z at c.sum_of_products.ensures in
    let before = simp to_z-of_z at c.loop-i.invariant in
    let more = combined-more c.args.m c.args.n c.args.first.now c.args.second.now (c.requires.first ∙ sym c.requires.second) i _ c.in-Some.sum
    c.loop-i.sums.items c.loop-i-test.true (sym before.count) is c.in-Some.is before.sums before.place in
    simp to_z-of_z (record {
      sums = more.0;
      place = more.1;
      in_range = All-set InRange c.loop-i.sums.items i c.in-Some.sum more.2 before.in_range;
      count =
          search rules;
    })

pub returns-clause-place : goal.returns-clause-place
returns-clause-place c = grind (arith, common_steps)

pub returns-clause-sums : goal.returns-clause-sums
returns-clause-sums c = grind (arith, common_steps)
