use Rattle.std.proofs.Common.{◌≡◌, not}
use Rattle.std.specs.List.{filter, range_with_len}
use Rattle.page_counts.specs.Records.{is_left_out}
use Rattle.page_counts.proofs.released.released_rows.Given as goal

abbrev pub invariant-loop-number : goal.invariant-loop-number
invariant-loop-number l = l.numbers.items ≡ filter (λ number. not (is_left_out l.left_out number)) (range_with_len 0 l.number)
