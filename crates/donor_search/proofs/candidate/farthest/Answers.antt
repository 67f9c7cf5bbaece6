use Rattle.std.proofs.Common.{arith}
use Rattle.donor_search.proofs.OrderLaws.{too_far}
use Rattle.donor_search.proofs.ReachLaws.{reaches_at}
use Rattle.donor_search.proofs.candidate.farthest.Goals as goal

pub returns-in-Some-clause-closed : goal.returns-in-Some-clause-closed
returns-in-Some-clause-closed c =
    λ x farther. too_far c.args.near c.args.nearest.now c.in-Some.last.now x c.requires.few (omega arith) c.requires.order c.in-Some.ensures.value
    (omega (arith, farther))

pub returns-in-Some-clause-reached : goal.returns-in-Some-clause-reached
returns-in-Some-clause-reached c = reaches_at c.args.nearest.now _ c.in-Some.last.now c.in-Some.ensures.value
