use Rattle.std.proofs.Common.{arith}
use Rattle.record_text.proofs.NumeralLaws.{decimal_below}
use Rattle.record_text.proofs.numeral.decimal_ratio.Goals as goal

pub overflow_mul-result : goal.overflow_mul-result
overflow_mul-result c =
    let before = c.in_ok-before.ensures.some in
    let behind = c.in_ok-behind.ensures.some in
    let all = decimal_below c.args.whole.now c.args.decimals.now c.in_ok-before.before c.pow-denominator.result c.in_ok-behind.behind before.0 behind.0 before.1
    c.pow-denominator.ensures behind.1 in
    omega (arith, all.0)

pub overflow_add-result : goal.overflow_add-result
overflow_add-result c =
    let before = c.in_ok-before.ensures.some in
    let behind = c.in_ok-behind.ensures.some in
    let all = decimal_below c.args.whole.now c.args.decimals.now c.in_ok-before.before c.pow-denominator.result c.in_ok-behind.behind before.0 behind.0 before.1
    c.pow-denominator.ensures behind.1 in
    omega (arith, all.0)
