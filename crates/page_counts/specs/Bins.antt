-- Bins of equal width over thousandths, and how many numbers each has.
use Rattle.std.specs.Prelude.{◌≡◌, ◌&&◌, not, ℕ, ◌+◌, ◌*◌, ◌/◌, ◌%◌, ◌^◌, ◌<◌, ℤ}
use Rattle.std.specs.Prelude.{pos, ◌+ℤ◌, ◌-ℤ◌, ◌*ℤ◌, ◌≤ℤ◌, ◌<ℤ◌, int_le, int_lt, Bool, true, false}
use Rattle.std.specs.Prelude.{List, [], ◌∷◌, slice_index, Option, Some, None, map}
use Rattle.std.specs.Int.{int_div_euclid}
use Rattle.std.specs.List.{count_by, range_with_len}
use Rattle.edit_model.specs.declared.value.Value.{Value}
use Rattle.page_counts.specs.Rules.{is_number}
use Rattle.page_counts.specs.Thousandths.{thousandths_at}
use Rattle.page_counts.specs.declared.bins.Bins.{Bins}

-- ---- where bins lie

-- where bin i begins, from 0
abbrev pub bin_low : Bins → ℕ → ℤ
bin_low bins i = bins.first +ℤ pos i *ℤ bins.width

-- thousandths are in one of the bins
abbrev pub IsWithin : Bins → ℤ → Type 0
IsWithin bins t = (bin_low bins 0 ≤ℤ t) × (t <ℤ bin_low bins bins.count)

-- the widths that bins may have, by rising size: 1, 2, 5, 10, 20, 50 and so on
abbrev pub round_width : ℕ → ℤ
round_width step = pos (slice_index (1 ∷ 2 ∷ 5 ∷ []) (step % 3) * 10 ^ (step / 3))

-- how many bins of a width there are from that of one number to that of another
abbrev pub bins_needed : ℤ → ℤ → ℤ → ℤ
bins_needed least greatest width = (int_div_euclid greatest width -ℤ int_div_euclid least width) +ℤ pos 1

-- whether at most 20 bins of a width, which is not below the unit, reach from one number to the other
abbrev pub reaches : ℤ → ℤ → ℤ → ℤ → Bool
reaches least greatest unit width = int_le unit width && int_le (bins_needed least greatest width) (pos 20)

-- the width is the least of the round ones that reach
pub record IsNarrowest (least greatest unit width : ℤ) : Type 0 where
  pub step : ℕ
  pub is : width ≡ round_width step
  pub reaching : reaches least greatest unit width ≡ true
  pub narrower : (k : ℕ) → k < step → reaches least greatest unit (round_width k) ≡ false

-- ---- how many numbers they have

-- whether there are thousandths from the first number on that are below the second
abbrev pub is_between : ℤ → ℤ → Option ℤ → Bool
is_between low high (Some t) = int_le low t && int_lt t high
is_between low high None = false

-- whether a value is in bin i
abbrev pub is_in_bin : Bins → ℕ → Value → Bool
is_in_bin bins i v = is_between (bin_low bins i) (bin_low bins (i + 1)) (thousandths_at v)

-- how many values are in each bin
abbrev pub bin_counts : Bins → List Value → List ℕ
bin_counts bins values = map (λ i. count_by (is_in_bin bins i) values) (range_with_len 0 bins.count)

-- whether a value is a number that is in no bin
abbrev pub is_beyond : Bins → Value → Bool
is_beyond bins v = is_number v && not (is_between (bin_low bins 0) (bin_low bins bins.count) (thousandths_at v))
