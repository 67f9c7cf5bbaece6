use Rattle.std.proofs.Common.{◌≡◌, map, take}
use Rattle.page_counts.specs.Thousandths.{thousandths_at}
use Rattle.page_counts.proofs.thousandth.thousandths.Given as goal

abbrev pub invariant-loop-value : goal.invariant-loop-value
invariant-loop-value l = l.thousandths.items ≡ map thousandths_at (take l.value-index l.values)
