use Rattle.std.proofs.lemmas.Result.{IfOk-weaker}
use Rattle.fraction128.specs.Arithmetic.{IsSum, IsDifference}
use Rattle.fraction128.proofs.FormulaLaws.{difference_is}
use Rattle.fraction128.proofs.fraction.Fraction.sub.Goals as goal

pub returns-clause-value : goal.returns-clause-value
returns-clause-value c =
    let x = c.args.self in
    let y = c.args.other in
    IfOk-weaker c.add.result (IsSum x c.negated.result) (IsDifference x y)
    (λ z h. difference_is x.numerator x.denominator y.numerator y.denominator c.negated.result.numerator
    c.negated.result.denominator z.numerator z.denominator c.negated.ensures.numerator c.negated.ensures.denominator h)
    c.add.ensures.value
