use Rattle.std.proofs.Common.{◌≡◌}
use Rattle.claim_tests.proofs.shared_claims.is_answered_again.Given as goal

abbrev pub invariant-loop-won : goal.invariant-loop-won
invariant-loop-won l = (l.book.rows ≡ 10000) × (l.book.donors ≡ 3000)
