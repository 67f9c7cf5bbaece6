-- What is noted of donors while the changes are gone through.
use Rattle.std.specs.Prelude.{◌≡◌, ℕ, ◌+◌, ◌<◌, ◌≤◌, true, if◌then◌else◌}
use Rattle.std.specs.Prelude.{List, length, slice_index_or, slice_set, Some, None, IfSome, MatchOption}
use Rattle.std.specs.Option.{option_map_or}
use Rattle.reason_lines.specs.declared.entry.Change.{Change}
use Rattle.page_counts.specs.Donors.{gave_to, gift_count, is_from}
use Rattle.page_counts.specs.declared.giving.Gifts.{Gifts}

-- what is known of a donor before any change: it gave to no record
abbrev pub no_gifts : Gifts
no_gifts = record { count = 0; last = None }

-- what is known of a donor with a gift to this record more; a record that is the last already counts once
abbrev pub with_gift : Gifts → ℕ → Gifts
with_gift gifts number = if is_from number gifts.last then gifts else record { count = gifts.count + 1; last = Some number }

-- what is known of all donors with one change more: its record is a gift of its donor, where it has one
abbrev pub noted : List Gifts → Change → List Gifts
noted gifts change =
    option_map_or (λ donor. slice_set gifts donor (with_gift (slice_index_or gifts donor no_gifts) change.«record»)) change.donor gifts

-- to how many of so many records the donor gave, and the last of these
pub record AreGifts (rows : ℕ) (changes : List Change) (donor : ℕ) (gifts : Gifts) : Type 0 where
  pub count : gifts.count ≡ gift_count rows changes donor
  pub last : IfSome gifts.last (λ n. gave_to changes donor n ≡ true)
  pub later : (n : ℕ) → n < rows → gave_to changes donor n ≡ true → MatchOption gifts.last ⊥ (λ l. n ≤ l)

-- of each of so many records it is known to how many it gave, and the last of these
pub record AreAllGifts (rows : ℕ) (changes : List Change) (gifts : List Gifts) : Type 0 where
  pub long : length gifts ≡ rows
  pub each : (k : ℕ) (d : Gifts) → k < rows → AreGifts rows changes k (slice_index_or gifts k d)
