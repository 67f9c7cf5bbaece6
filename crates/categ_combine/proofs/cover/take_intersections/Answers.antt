use Rattle.categ_combine.specs.BoxLists.{with_from}
use Rattle.categ_combine.specs.Covers.{joined_for}
use Rattle.categ_combine.proofs.EachLaws.{each-taken}
use Rattle.categ_combine.proofs.cover.take_intersections.Goals as goal

pub loop-i-preserved : goal.loop-i-preserved
loop-i-preserved c =
    let e = each-taken with_from (joined_for c.args.at.now.spot.place c.args.at.now.spot.whole c.args.at.now.code c.args.cover.now)
    c.args.work.now.next.items c.args.boxes.now c.loop-i.i c.index-boxes-i.result c.loop-i-test.true in
    cc (e, c.in_ok-take_intersection.ensures, c.loop-i.invariant, c.index-boxes-i.is)
