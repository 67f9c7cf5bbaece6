-- How often donors gave.
use Rattle.std.specs.Prelude.{ℕ, ◌==◌, ◌&&◌, Bool, false, List, Option, Some, None, map, filter, nat_lt}
use Rattle.std.specs.List.{count_by, list_any, range_with_len}
use Rattle.reason_lines.specs.declared.entry.Change.{Change}
use Rattle.page_counts.specs.declared.amounts.Amount.{Amount}

-- whether the donor is this one
abbrev pub is_from : ℕ → Option ℕ → Bool
is_from donor (Some d) = d == donor
is_from donor None = false

-- whether the donor gave to the record
abbrev pub gave_to : List Change → ℕ → ℕ → Bool
gave_to changes donor number = list_any (λ (c : Change). (c.record == number) && is_from donor c.donor) changes

-- to how many of so many records the donor gave
abbrev pub gift_count : ℕ → List Change → ℕ → ℕ
gift_count rows changes donor = count_by (gave_to changes donor) (range_with_len 0 rows)

-- those of so many records that gave, in order, with the number of records to which they gave
abbrev pub donors_of : ℕ → List Change → List Amount
donors_of rows changes =
    map (λ donor. record { number = donor; size = gift_count rows changes donor })
    (filter (λ donor. nat_lt 0 (gift_count rows changes donor)) (range_with_len 0 rows))
