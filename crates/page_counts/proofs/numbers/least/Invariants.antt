use Rattle.std.proofs.Common.{MatchOption, take}
use Rattle.page_counts.specs.Numbers.{HaveNoNumber, IsLeast}
use Rattle.page_counts.proofs.numbers.least.Given as goal

abbrev pub invariant-loop-value : goal.invariant-loop-value
invariant-loop-value l = MatchOption l.least (HaveNoNumber (take l.value-index l.values)) (IsLeast (take l.value-index l.values))
