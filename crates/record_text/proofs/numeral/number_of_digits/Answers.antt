use Rattle.std.proofs.Common.{arith}
use Rattle.std.proofs.lemmas.Str.Parse.{digit_at}
use Rattle.record_text.proofs.DigitLaws.{number_more, number_small}
use Rattle.record_text.proofs.numeral.number_of_digits.Goals as goal

pub returns-then-not-is_ascii_digit-clause-none : goal.returns-then-not-is_ascii_digit-clause-none
returns-then-not-is_ascii_digit-clause-none c = λ digits.
    let other = rw c.if-not-is_ascii_digit.true at c.is_ascii_digit.ensures.cases in
    let digit = digit_at c.args.digits.now c.loop-digit.digit-index digits.0 c.loop-digit-test.true in
    omega arith

pub overflow_mul-number : goal.overflow_mul-number
overflow_mul-number c =
    let small = number_small c.args.digits.now c.loop-digit.digit-index c.loop-digit.invariant.1 (omega arith) in
    omega arith

pub overflow_add-number : goal.overflow_add-number
overflow_add-number c =
    let small = number_small c.args.digits.now c.loop-digit.digit-index c.loop-digit.invariant.1 (omega arith) in
    let fits = c.type_inv.digits c.loop-digit.digit-index in
    omega arith

pub loop-digit-preserved : goal.loop-digit-preserved
loop-digit-preserved c =
    let digit = rw c.if-not-is_ascii_digit.false at c.is_ascii_digit.ensures.cases in
    number_more c.args.digits.now c.loop-digit.number c.loop-digit.digit-index c.from.result c.loop-digit-test.true c.loop-digit.invariant.0
    c.loop-digit.invariant.1 digit c.from.ensures
