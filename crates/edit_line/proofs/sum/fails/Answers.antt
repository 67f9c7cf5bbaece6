use Rattle.std.proofs.Common.{FitsSigned, ◌∙◌, rules}
use Rattle.std.proofs.lemmas.Int.{to_z-of_z}
use mir.Syntax.{w128}
use Rattle.edit_line.proofs.SumCallers.{numbers-agreed}
use Rattle.edit_line.proofs.SumLaws.{fails-answered}
use Rattle.edit_line.proofs.sum.fails.Goals as goal

pub returns-clause-truth : goal.returns-clause-truth
returns-clause-truth c = λ p agrees.
    let fits : FitsSigned w128 c.numerator.result = search rules in
    fails-answered c.args.line.now c.args.row.now p c.in_ok-sum.sum c.relation.result c.is_enough.result _
    (numbers-agreed c.args.survey.now.fields c.args.row.now c.args.line.now p c.requires.shape c.requires.row agrees) agrees (c.in_ok-sum.ensures.value)
    c.relation.ensures (to_z-of_z w128 c.numerator.result fits ∙ c.numerator.ensures) c.is_enough.ensures
