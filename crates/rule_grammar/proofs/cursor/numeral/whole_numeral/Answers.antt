use Rattle.std.proofs.Common.{◌+◌, arith}
use Rattle.rule_grammar.proofs.Numerals.{number_large, number_more}
use Rattle.rule_grammar.proofs.cursor.numeral.whole_numeral.Goals as goal

pub returns-then-number-gt-MOST : goal.returns-then-number-gt-MOST
returns-then-number-gt-MOST c =
    let more = number_more c.args.digits.now c.loop-digit.number c.loop-digit.digit-index c.from.result c.requires c.loop-digit-test.true
    c.loop-digit.invariant.0 c.from.ensures in
    number_large c.args.digits.now (c.loop-digit.digit-index + 1) _ more (omega arith)

pub loop-digit-preserved : goal.loop-digit-preserved
loop-digit-preserved c = (
  number_more c.args.digits.now c.loop-digit.number c.loop-digit.digit-index c.from.result c.requires c.loop-digit-test.true c.loop-digit.invariant.0
      c.from.ensures,
  omega arith,
)
