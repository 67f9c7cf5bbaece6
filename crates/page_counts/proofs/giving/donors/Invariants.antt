use Rattle.std.proofs.Common.{◌≡◌, map, nat_lt}
use Rattle.std.specs.List.{filter, range_with_len}
use Rattle.page_counts.specs.Donors.{gift_count}
use Rattle.page_counts.proofs.giving.donors.Given as goal

abbrev pub invariant-loop-number : goal.invariant-loop-number
invariant-loop-number l =
    l.donors.items ≡ map (λ donor. record { number = donor; size = gift_count l.rows l.changes donor })
    (filter (λ donor. nat_lt 0 (gift_count l.rows l.changes donor)) (range_with_len 0 l.number))
