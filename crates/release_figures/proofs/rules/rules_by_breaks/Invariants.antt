use Rattle.std.proofs.Common.{◌≡◌, map, take}
use Rattle.page_counts.specs.declared.rules.RuleCount.{RuleCount}
use Rattle.release_figures.proofs.rules.rules_by_breaks.Given as goal

abbrev pub invariant-loop-count : goal.invariant-loop-count
invariant-loop-count l = l.broken.items ≡ map (λ (count : RuleCount). count.broken) (take l.count-index l.counts)
