use Rattle.std.proofs.Common.{arith}
use Rattle.edit_line.specs.Domains.{domains}
use Rattle.categ_combine.proofs.CoverLoops.{so_far-next, so_far-passed}
use Rattle.categ_combine.proofs.step.covers_of.Goals as goal

pub returns-then-more-from-clause-passed : goal.returns-then-more-from-clause-passed
returns-then-more-from-clause-passed c =
    so_far-passed (domains c.args.spot.now.shape) c.args.spot.now.place c.args.spot.now.whole c.args.boxes.now c.args.size c.args.most c.loop-code.code
    c.loop-code.covers.items c.loop-code.pairs c.pairs_for-more.result (
    omega arith
    ) c.loop-code.invariant (cc (c.pairs_for-more.ensures, c.len.ensures)) (omega (arith, c.from.ensures))

pub loop-code-preserved : goal.loop-code-preserved
loop-code-preserved c =
    so_far-next (domains c.args.spot.now.shape) c.args.spot.now.place c.args.spot.now.whole c.args.boxes.now c.args.size c.args.most c.loop-code.code
    c.loop-code.covers.items c.in_ok-covers.covers.items c.loop-code.pairs c.pairs_for-more.result (
    omega arith
    ) c.loop-code.invariant (cc (c.in_ok-covers.ensures.next)) (c.in_ok-covers.ensures.over) (cc (c.pairs_for-more.ensures, c.len.ensures))
    (omega (arith, c.from.ensures))
