use Rattle.std.proofs.Common.{◌∙◌, sym, suc, arith}
use Rattle.reason_lines.proofs.WordLaws.{named_inside, named_none, named_outside}
use Rattle.reason_lines.proofs.words.record_named.Goals as goal

pub returns-in_err-number : goal.returns-in_err-number
returns-in_err-number c =
    c.from_residual.ensures ∙ sym (named_none c.args.rows c.args.text.now (λ n within. c.in_err-number.ensures.none (suc n) (omega (arith, within))))

pub returns-then-number-eq0 : goal.returns-then-number-eq0
returns-then-number-eq0 c =
    sym (named_outside c.args.rows c.in_ok-number.number c.args.text.now (omega arith) (omega arith) c.in_ok-number.ensures.some
    (λ n within same. omega (arith, same)))

pub returns-then-number-rows : goal.returns-then-number-rows
returns-then-number-rows c =
    sym (named_outside c.args.rows c.in_ok-number.number c.args.text.now (omega arith) (omega arith) c.in_ok-number.ensures.some
    (λ n within same. omega (arith, within, same)))

pub returns : goal.returns
returns c =
    sym (named_inside c.args.rows c.in_ok-number.number c.args.text.now (omega arith) c.in_ok-number.ensures.some (omega arith) (omega arith))
