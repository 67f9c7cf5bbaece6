use Rattle.std.proofs.Common.{◌≡◌, map}
use Rattle.std.specs.Map.Iter.{deref_pair}
use Rattle.page_counts.specs.declared.amounts.SizeCount.{SizeCount}
use Rattle.page_counts.proofs.amounts.tally.Given as goal

abbrev pub invariant-loop-size : goal.invariant-loop-size
invariant-loop-size l = map (λ (c : SizeCount). (c.size, c.count)) l.counts.items ≡ map deref_pair l.yielded
