use Rattle.std.proofs.Common.{◌≡◌, ◌<◌, length, get_or, arith}
use Rattle.std.proofs.lemmas.Bool.{MatchBool-at_false, MatchBool-at_true}
use Rattle.edit_language.proofs.CodeLaws.{distinct_at, double_at}
use Rattle.std.proofs.lemmas.Grind.{common_steps}
use Rattle.edit_language.proofs.codes.has_double.Goals as goal

pub returns-then-not-branch : goal.returns-then-not-branch
returns-then-not-branch c =
    let rest = c.args.list.now.rest in
    let code = c.code-item.result in
    let within : c.loop-code.code-index < length rest = rw (← c.as_slice-code-items.ensures) c.loop-code-test.true in
    let here : code ≡ get_or rest c.loop-code.code-index code = rw (← c.as_slice-code-items.ensures) c.code-item.is in
    double_at c.args.list.now.first rest c.loop-code.code-index c.loop-code.seen code within c.loop-code.invariant.0 here
    (MatchBool-at_false _ _ c.if-not-branch.true c.in_ok-insert-2.ensures)

pub loop-code-preserved : goal.loop-code-preserved
loop-code-preserved c =
    let rest = c.args.list.now.rest in
    let code = c.code-item.result in
    let within : c.loop-code.code-index < length rest = rw (← c.as_slice-code-items.ensures) c.loop-code-test.true in
    let here : code ≡ get_or rest c.loop-code.code-index code = rw (← c.as_slice-code-items.ensures) c.code-item.is in
    let new = MatchBool-at_true _ _ c.if-not-branch.false c.in_ok-insert-2.ensures in
    distinct_at c.args.list.now.first rest c.loop-code.code-index c.loop-code.seen code within c.loop-code.invariant.0 here c.insert-in-loop-code.new.self
    c.loop-code.invariant.1 new.0 new.1

pub returns : goal.returns
returns c = grind (arith, common_steps)
