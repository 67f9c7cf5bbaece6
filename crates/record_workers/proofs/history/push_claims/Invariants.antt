use Rattle.std.proofs.Common.{◌≡◌, ◌++◌, map, take}
use Rattle.record_workers.specs.inner.Gatherings.{entry_by}
use Rattle.record_workers.proofs.history.push_claims.Given as goal

abbrev pub invariant-loop-won : goal.invariant-loop-won
invariant-loop-won l = l.history.items ≡ l.fn.history.items ++ map (entry_by l.pieces) (take l.won-index l.wins)
