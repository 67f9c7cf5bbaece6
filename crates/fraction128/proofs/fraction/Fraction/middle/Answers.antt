use Rattle.std.proofs.Common.{ℕ, pos}
use Rattle.std.specs.Prelude.{Ok, Err}
use Rattle.std.proofs.lemmas.Result.{IfOk-weaker}
use Rattle.fraction128.specs.Arithmetic.{IsQuotient, IsMiddle}
use Rattle.fraction128.specs.Formulas.{ratio_of}
use Rattle.fraction128.proofs.MiddleLaws.{half-answered, middle_is, refused-answered, two_apart}
use Rattle.fraction128.proofs.QuotientLaws.{divided-answered}
use Rattle.fraction128.proofs.RatioLaws.{added-answered}
use Rattle.fraction128.proofs.fraction.Fraction.middle.Goals as goal

pub returns-clause-value : goal.returns-clause-value
returns-clause-value c =
    let x = c.args.self in
    let y = c.args.other in
    let w = c.in_ok-add.field-0 in
    IfOk-weaker c.divide.result (IsQuotient w (pos 2)) (IsMiddle x y)
    (λ z h. middle_is _ _ w.numerator w.denominator z.numerator z.denominator w.positive c.in_ok-add.ensures.value h)
    c.divide.ensures.value

pub returns-clause-formula : goal.returns-clause-formula
returns-clause-formula c =
    let w = c.in_ok-add.field-0 in
    half-answered c.args.self c.args.other w c.divide.result (added-answered {E = ℕ} c.args.self c.args.other (Ok w) c.in_ok-add.ensures.value
    c.in_ok-add.ensures.fits tt)
    (divided-answered w (pos 2) c.divide.result two_apart c.divide.ensures.value c.divide.ensures.fits c.divide.ensures.overflow)

pub returns-in_err-add-clause-formula : goal.returns-in_err-add-clause-formula
returns-in_err-add-clause-formula c =
    refused-answered (ratio_of c.args.self) (ratio_of c.args.other) c.from_residual.result c.from_residual.ensures.0
    (added-answered {E = ℕ} c.args.self c.args.other (Err 0) tt tt c.in_err-add.ensures.overflow)
