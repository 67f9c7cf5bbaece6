use Rattle.std.proofs.Common.{MatchOption, take}
use Rattle.page_counts.specs.Numbers.{HaveNoNumber, IsGreatest}
use Rattle.page_counts.proofs.numbers.greatest.Given as goal

abbrev pub invariant-loop-value : goal.invariant-loop-value
invariant-loop-value l = MatchOption l.greatest (HaveNoNumber (take l.value-index l.values)) (IsGreatest (take l.value-index l.values))
