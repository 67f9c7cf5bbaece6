use Rattle.std.proofs.Common.{FitsSigned, length, sym, ap, ◌∙◌, rules}
use Rattle.std.proofs.lemmas.Int.{to_z-of_z}
use mir.Syntax.{w128}
use Rattle.edit_line.proofs.RowFields.{numbers-within}
use Rattle.edit_line.proofs.ShapeLaws.{same_fields}
use Rattle.edit_line.proofs.SumCallers.{numbers-agreed}
use Rattle.edit_line.proofs.SumLaws.{amount-answered, overflow-answered, sum-is, value-answered}
use Rattle.edit_line.proofs.sum.value_at.Goals as goal

pub sum_over-requires-clause-count : goal.sum_over-requires-clause-count
sum_over-requires-clause-count c = ap length c.factors.ensures.factors ∙ c.factors.ensures.count
    ∙ sym (ap length (same_fields c.numbers.result.now c.args.survey.now.fields c.args.line.now.shape c.numbers.ensures c.requires.shape))

pub sum_over-requires-clause-places : goal.sum_over-requires-clause-places
sum_over-requires-clause-places c = numbers-within c.args.survey.now.fields c.args.row.now c.numbers.result.now c.requires.row c.numbers.ensures

pub returns : goal.returns
returns c =
    let line = c.args.line.now in
    let row = c.args.row.now in
    let fits : FitsSigned w128 c.constant.result = search rules in
    let fields = same_fields c.numbers.result.now c.args.survey.now.fields line.shape c.numbers.ensures c.requires.shape in
    let same = sum-is line row c.numbers.result.now c.factors.result.now _ fields c.factors.ensures.factors
    (to_z-of_z w128 c.constant.result fits ∙ c.constant.ensures.constant) in
    record {
      value = value-answered line row _ same c.sum_over.result c.sum_over.ensures.sum;
      overflow = overflow-answered line row _ same c.sum_over.result c.sum_over.ensures.overflow;
      amount = amount-answered line row _ same (λ p agrees. numbers-agreed c.args.survey.now.fields row line p c.requires.shape c.requires.row agrees)
          c.sum_over.result c.sum_over.ensures.sum;
    }
