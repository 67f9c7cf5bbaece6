use Rattle.std.proofs.Common.{◌≡◌, drop}
use Rattle.fraction128.specs.Formulas.{ratio_of}
use Rattle.page_counts.specs.Numbers.{sum_of, sum_over}
use Rattle.page_counts.proofs.numbers.sum_of.Given as goal

abbrev pub invariant-loop-value : goal.invariant-loop-value
invariant-loop-value l = sum_over (drop l.value-index l.values) (ratio_of l.sum) ≡ sum_of l.values
