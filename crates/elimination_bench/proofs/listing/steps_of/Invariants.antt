use Rattle.std.proofs.Common.{◌≡◌}
use Rattle.elimination_bench.specs.inner.Listings.{steps_of}
use Rattle.elimination_bench.proofs.listing.steps_of.Given as goal

abbrev pub invariant-loop-place : goal.invariant-loop-place
invariant-loop-place l = l.steps.items ≡ steps_of l.listing l.place
