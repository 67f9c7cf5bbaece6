use Rattle.std.proofs.Common.{◌≡◌}
use Rattle.claim_tests.proofs.shared_claims.claim_all.Given as goal

abbrev pub invariant-loop-i : goal.invariant-loop-i
invariant-loop-i l = l.pass.book ≡ l.fn.pass.book
