use Rattle.panel_files.proofs.JoinedLaws.{join-all, join-more, join-none, next-last, next-own}
use Rattle.panel_files.proofs.rows.join.Goals as goal

pub loop-number-init : goal.loop-number-init
loop-number-init g c =
    rw c.in_ok-both.ensures.items (join-none c.args.fields.now c.args.set c.args.own.now c.args.last.now c.requires.own c.requires.last)

pub element-requires-clause-in_last : goal.element-requires-clause-in_last
element-requires-clause-in_last g c =
    next-last c.args.fields.now c.args.set c.args.own.now c.args.last.now c.loop-number.number c.loop-number.taken c.loop-number.both.items
    c.loop-number-test.true c.loop-number.invariant c.has-is_last.result c.has-is_last.ensures

pub element-requires-clause-in_own : goal.element-requires-clause-in_own
element-requires-clause-in_own g c =
    next-own c.args.fields.now c.args.set c.args.own.now c.args.last.now c.loop-number.number c.loop-number.taken c.loop-number.both.items
    c.loop-number-test.true c.loop-number.invariant c.has-is_last.result c.has-is_last.ensures

pub loop-number-preserved : goal.loop-number-preserved
loop-number-preserved g c =
    rw c.in_ok-push.ensures.items
    (join-more c.args.fields.now c.args.set c.args.own.now c.args.last.now c.loop-number.number c.loop-number.taken c.loop-number.both.items
    c.loop-number-test.true c.loop-number.invariant c.has-is_last.result c.element.result c.from-taken.result c.has-is_last.ensures c.element.ensures
    (λ told. rw told at c.from-taken.ensures) (λ told. rw told at c.from-taken.ensures))

pub returns : goal.returns
returns g c =
    join-all c.args.fields.now c.args.set c.args.own.now c.args.last.now c.loop-number.number c.loop-number.taken c.loop-number.both.items
    c.loop-number-test.false c.loop-number.invariant
