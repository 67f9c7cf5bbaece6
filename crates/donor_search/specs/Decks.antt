-- What contracts see of a deck: its donors, and what it keeps to find the near ones.
use Rattle.std.specs.Prelude.{◌≡◌, ℕ, ◌+◌, ◌*◌, ◌<◌, ◌≤◌, List, [], ◌∷◌, Option, Some, None, drop, length, map, slice_index_or, take}
use Rattle.std.specs.List.{flat_map}
use Rattle.std.specs.List.Sorted.{IsNonDecreasingBy, IsPermutation, IsStrictlyIncreasing}
use Rattle.edit_model.specs.Rows.{value_of}
use Rattle.edit_model.specs.declared.value.Value.{Value}
use Rattle.donor_measure.specs.Buckets.{bucket_no, marks_of}
use Rattle.donor_measure.specs.Yardsticks.{yardstick_at}
use Rattle.donor_measure.specs.declared.yardstick.Yardstick.{Yardstick}
use Rattle.donor_search.specs.CleanRows.{row_at}
use Rattle.donor_search.specs.declared.ranges.MarkRange.{MarkRange}
use Rattle.donor_search.specs.declared.slot.Slot.{Slot}

-- how many donors a block has
abbrev pub block_size : ℕ
block_size = 32

-- how many fields of a donor are looked at first
abbrev pub first_fields : ℕ
first_fields = 8

-- the donors of a deck; of each field its slots; the marks of all rows; and a field, with the marks of the donors in the order of
-- its slots, those at the first fields alone, and the ranges of these marks in blocks of donors
pub record DeckParts : Type 0 where
  pub donors : List ℕ
  pub index : List (List Slot)
  pub marks : List ℕ
  pub first : ℕ
  pub walk_marks : List ℕ
  pub first_marks : List ℕ
  pub ranges : List MarkRange

-- a donor with its bucket at a field of this scale
abbrev pub slot_of : ℕ → List (List Value) → ℕ → ℕ → Slot
slot_of scale rows field donor = record { bucket = bucket_no scale (value_of (row_at rows donor) field); donor = donor }

-- the slots of a numerical field: each donor with its bucket, in the order of the buckets
abbrev pub AreSlots : Option ℕ → List (List Value) → ℕ → List ℕ → List Slot → Type 0
AreSlots None rows field donors slots = Unit {0}
AreSlots (Some scale) rows field donors slots =
    IsPermutation (map (slot_of scale rows field) donors) slots × IsNonDecreasingBy (λ (s : Slot). s.bucket) slots

-- the slots of a field; none past the end
abbrev pub slots_at : List (List Slot) → ℕ → List Slot
slots_at index field = slice_index_or index field []

-- the slot at a place
abbrev pub slot_at : List Slot → ℕ → Slot
slot_at slots place = slice_index_or slots place (record { bucket = 0; donor = 0 })

-- the marks of the donor of a slot
abbrev pub slot_marks : List Yardstick → List (List Value) → Slot → List ℕ
slot_marks yardsticks rows slot = marks_of yardsticks (row_at rows slot.donor)

-- the marks of the donor of a slot at the first n fields
abbrev pub slot_first_marks : ℕ → List Yardstick → List (List Value) → Slot → List ℕ
slot_first_marks n yardsticks rows slot = take n (slot_marks yardsticks rows slot)

-- the mark of a donor at a field, where so many marks a donor stand one donor after the other
abbrev pub mark_at : List ℕ → ℕ → ℕ → ℕ → ℕ
mark_at marks count donor field = slice_index_or marks (donor * count + field) 0

-- the range at a place
abbrev pub range_at : List MarkRange → ℕ → MarkRange
range_at ranges place = slice_index_or ranges place (record { low = 0; high = 0 })

-- the ranges of a block, one at each field
abbrev pub block_ranges : ℕ → List MarkRange → ℕ → List MarkRange
block_ranges count ranges block = take count (drop (block * count) ranges)

-- a mark is neither below the least nor above the greatest of a range
abbrev pub IsWithin : MarkRange → ℕ → Type 0
IsWithin range mark = (range.low ≤ mark) × (mark ≤ range.high)

-- each range has a mark, which is within it
abbrev pub AreWithin : List MarkRange → List ℕ → Type 0
AreWithin [] marks = Unit {0}
AreWithin (range ∷ ranges) [] = ⊥
AreWithin (range ∷ ranges) (mark ∷ marks) = IsWithin range mark × AreWithin ranges marks

-- a deck is one of these rows and yardsticks: its donors rise, and it has their slots at each numerical field, the marks of all rows,
-- those of the donors in the order of the slots of one field, these at the first fields alone once more, and ranges at each field for
-- each whole block of these donors, within which their marks are
pub record IsDeckOf (yardsticks : List Yardstick) (rows : List (List Value)) (deck : DeckParts) : Type 0 where
  pub rising : IsStrictlyIncreasing deck.donors
  pub fields : length deck.index ≡ length yardsticks
  pub slots : (f : ℕ) → f < length yardsticks
      → AreSlots (yardstick_at yardsticks f).scale rows f deck.donors (slots_at deck.index f)
  pub marks : deck.marks ≡ flat_map (marks_of yardsticks) rows
  pub walk_marks : deck.walk_marks ≡ flat_map (slot_marks yardsticks rows) (slots_at deck.index deck.first)
  pub first_marks : deck.first_marks ≡ flat_map (slot_first_marks first_fields yardsticks rows) (slots_at deck.index deck.first)
  pub blocks : (block : ℕ) → block * block_size + block_size ≤ length (slots_at deck.index deck.first)
      → block * length yardsticks + length yardsticks ≤ length deck.ranges
  pub ranges : (block j : ℕ) → block * block_size + block_size ≤ length (slots_at deck.index deck.first) → j < block_size
      → AreWithin (block_ranges (length yardsticks) deck.ranges block)
      (slot_marks yardsticks rows (slot_at (slots_at deck.index deck.first) (block * block_size + j)))
