use Rattle.std.proofs.Common.{◌∙◌, FitsSigned, ap, length, rules, sym}
use Rattle.std.proofs.lemmas.Int.{to_z-of_z}
use mir.Syntax.{w128}
use Rattle.edit_line.proofs.ShapeLaws.{same_fields}
use Rattle.rule_report.proofs.SumLaws.{linear-is}
use Rattle.rule_report.proofs.sums.write_linear.Goals as goal

pub write_sum-requires : goal.write_sum-requires
write_sum-requires c =
    ap length c.factors.ensures.factors ∙ c.factors.ensures.count
    ∙ sym (ap length (same_fields c.numbers.result.now c.args.survey.now.fields c.args.line.now.shape c.numbers.ensures c.requires))

pub returns : goal.returns
returns c =
    let line = c.args.line.now in
    let fits : FitsSigned w128 c.constant.result = search rules in
    let sum = simp (to_z-of_z w128 _ fits) at c.in_ok-write_sum.ensures in
    let numbers = same_fields c.numbers.result.now c.args.survey.now.fields line.shape c.numbers.ensures c.requires in
    linear-is line c.args.survey.now.fields _ _ _ _ _ _ _ _ c.fields.ensures.fields numbers c.factors.ensures.factors c.constant.ensures.constant sum
    c.in_ok-extend_from_slice.ensures.items (rw (c.comparison.ensures, c.relation.ensures) at c.compare_text.ensures)
