use Rattle.bench_frame.proofs.WordLaws.{no-plus, number-read, number-refused}
use Rattle.bench_frame.proofs.words.number_in.Goals as goal

pub returns-in_default : goal.returns-in_default
returns-in_default c =
    let plain = no-plus c.args.text.now c.as_bytes.result.now c.in_ok-first.first.now c.as_bytes.ensures.value c.in_ok-first.ensures.value
    c.if-not-is_ascii_digit.ensures.cases.0 in
    number-refused c.args.text.now c.args.least c.args.most plain c.in_default.ensures.value.0 c.ranges.most.fits

pub returns-then-number-most : goal.returns-then-number-most
returns-then-number-most c =
    let plain = no-plus c.args.text.now c.as_bytes.result.now c.in_ok-first.first.now c.as_bytes.ensures.value c.in_ok-first.ensures.value
    c.if-not-is_ascii_digit.ensures.cases.0 in
    number-read c.args.text.now c.args.least c.args.most plain c.in-Ok.number c.in-Ok.ensures.value.0 c.if-least-number.true c.if-number-most.true
