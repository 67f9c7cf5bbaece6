use Rattle.std.proofs.Common.{◌≡◌, map}
use Rattle.std.specs.List.{count_by, range_with_len}
use Rattle.page_counts.specs.Bins.{is_in_bin}
use Rattle.page_counts.proofs.bin_counts.histogram.Given as goal

abbrev pub invariant-loop-i : goal.invariant-loop-i
invariant-loop-i l = l.counts.items ≡ map (λ i. count_by (is_in_bin l.bins i) l.values) (range_with_len 0 l.i)
