use Rattle.record_text.proofs.NumeralLaws.{unsigned_below}
use Rattle.std.proofs.Common.{arith}
use Rattle.std.proofs.lemmas.Grind.{common_steps}
use Rattle.record_text.proofs.numeral.fraction_of_text.Goals as goal

pub returns-in_err-ratio-clause-none : goal.returns-in_err-ratio-clause-none
returns-in_err-ratio-clause-none c = rw c.from_residual.ensures
    (λ x numeral. c.in_err-ratio.ensures.none numeral.numerator numeral.denominator (rw c.without_sign.ensures numeral.spelled))

pub signed_fraction-requires-clause-numerator : goal.signed_fraction-requires-clause-numerator
signed_fraction-requires-clause-numerator c = (unsigned_below c.without_sign.result.now c.in_ok-ratio.ratio.numerator c.in_ok-ratio.ratio.denominator
    c.in_ok-ratio.ensures.some).0

pub signed_fraction-requires-clause-denominator : goal.signed_fraction-requires-clause-denominator
signed_fraction-requires-clause-denominator c =
    let all = unsigned_below c.without_sign.result.now c.in_ok-ratio.ratio.numerator c.in_ok-ratio.ratio.denominator c.in_ok-ratio.ensures.some in
    (all.1, all.2)

pub without_sign-requires : goal.without_sign-requires
without_sign-requires c = grind (arith, common_steps)

pub unsigned_ratio-requires : goal.unsigned_ratio-requires
unsigned_ratio-requires c = grind (arith, common_steps)

pub returns-in_err-ratio-clause-some : goal.returns-in_err-ratio-clause-some
returns-in_err-ratio-clause-some c = grind (arith, common_steps)

pub has_minus-requires : goal.has_minus-requires
has_minus-requires c = grind (arith, common_steps)

pub returns-clause-some : goal.returns-clause-some
returns-clause-some c = grind (arith, common_steps)

pub returns-clause-none : goal.returns-clause-none
returns-clause-none c = grind (arith, common_steps)
