use Rattle.std.proofs.Common.{length, take}
use Rattle.cert_check.specs.inner.ClaimChecks.{AreMarked}
use Rattle.cert_check.proofs.claimed_rows.claimed_rows.Given as goal

abbrev pub invariant-loop-claim : goal.invariant-loop-claim
invariant-loop-claim l = AreMarked (take l.claim-index l.said.claims) (length l.said.rows) l.marks.items
