use Rattle.elimination_bench.proofs.ListingLaws.{steps-more}
use Rattle.elimination_bench.proofs.listing.steps_of.Goals as goal

pub loop-place-preserved : goal.loop-place-preserved
loop-place-preserved c = steps-more c.args.listing c.loop-place.place c.loop-place.steps.items c.push.new.self.items c.step.result c.in_ok-push.ensures.items
    c.loop-place.invariant c.step.ensures
