use Rattle.std.proofs.Common.{◌≡◌, ◌∙◌, ℕ, ◌+◌, ◌-◌, ◌*◌, ◌<◌, ◌≤◌, List, [], drop, length, min, take}
use Rattle.edit_model.specs.declared.value.Value.{Value}
use Rattle.donor_measure.specs.Buckets.{marks_of}
use Rattle.donor_measure.specs.declared.yardstick.Yardstick.{Yardstick}
use Rattle.donor_search.specs.CleanRows.{row_at}
use Rattle.donor_search.specs.Decks.{DeckParts, IsDeckOf, block_ranges, block_size, first_fields, slot_at, slot_first_marks, slot_marks, slots_at}
use Rattle.donor_search.specs.declared.ranges.MarkRange.{MarkRange}
use Rattle.donor_search.specs.declared.slot.Slot.{Slot}
use Rattle.donor_search.proofs.ProfileLaws.{first_long, marks_long}
use Rattle.donor_search.proofs.TableLaws.{entry_is, entry_within, part_is, part_within}

-- What is looked up in a deck: `n` numbers from place `k * n` on.

slot_long : (ys : List Yardstick) (rows : List (List Value)) (x : Slot) → length (slot_marks ys rows x) ≡ length ys
slot_long ys rows x = marks_long 0 ys (row_at rows x.donor)

slot_few : (ys : List Yardstick) (rows : List (List Value)) (x : Slot) → length (slot_first_marks first_fields ys rows x) ≡ min first_fields (length ys)
slot_few ys rows x = first_long ys (row_at rows x.donor)

module _ {ys : List Yardstick} {rows : List (List Value)} {deck : DeckParts} (is : IsDeckOf ys rows deck) {n : ℕ} (k : ℕ) where
  -- the marks of a row
  module _ {all : List ℕ} (count_is : n ≡ length ys) (all_is : all ≡ deck.marks) (below : k < length rows) where
    pub row_within : k * n + n ≤ length all
    row_within = entry_within (marks_of ys) (length ys) (marks_long 0 ys) n k all rows count_is (all_is ∙ is.marks) below

    pub row_is : take (k * n + n - k * n) (drop (k * n) all) ≡ marks_of ys (row_at rows k)
    row_is = entry_is (marks_of ys) (length ys) (marks_long 0 ys) n k all rows count_is (all_is ∙ is.marks) below []

  module _ {all : List ℕ} (below : k < length (slots_at deck.index deck.first)) where
    -- those of the donor at a place of the walk
    pub walk_within : n ≡ length ys → all ≡ deck.walk_marks → k * n + n ≤ length all
    walk_within count_is all_is =
        entry_within (slot_marks ys rows) (length ys) (slot_long ys rows) n k all (slots_at deck.index deck.first) count_is (all_is ∙ is.walk_marks) below

    pub walk_is : n ≡ length ys → all ≡ deck.walk_marks
        → take (k * n + n - k * n) (drop (k * n) all) ≡ slot_marks ys rows (slot_at (slots_at deck.index deck.first) k)
    walk_is count_is all_is =
        entry_is (slot_marks ys rows) (length ys) (slot_long ys rows) n k all (slots_at deck.index deck.first) count_is (all_is ∙ is.walk_marks) below
        (record { bucket = 0; donor = 0 })

    -- and at the first fields
    pub first_within : n ≡ min first_fields (length ys) → all ≡ deck.first_marks → k * n + n ≤ length all
    first_within count_is all_is =
        entry_within (slot_first_marks first_fields ys rows) (min first_fields (length ys)) (slot_few ys rows) n k all (slots_at deck.index deck.first)
        count_is (all_is ∙ is.first_marks) below

    pub first_is : n ≡ min first_fields (length ys) → all ≡ deck.first_marks
        → take (k * n + n - k * n) (drop (k * n) all) ≡ slot_first_marks first_fields ys rows (slot_at (slots_at deck.index deck.first) k)
    first_is count_is all_is =
        entry_is (slot_first_marks first_fields ys rows) (min first_fields (length ys)) (slot_few ys rows) n k all (slots_at deck.index deck.first)
        count_is (all_is ∙ is.first_marks) below
        (record { bucket = 0; donor = 0 })

  -- the ranges of a block
  module _ {all : List MarkRange} (count_is : n ≡ length ys) (all_is : all ≡ deck.ranges) where
    pub block_within : k * block_size + block_size ≤ length (slots_at deck.index deck.first) → k * n + n ≤ length all
    block_within whole = part_within n (length ys) k all deck.ranges count_is all_is (is.blocks k whole)

    pub block_is : take (k * n + n - k * n) (drop (k * n) all) ≡ block_ranges (length ys) deck.ranges k
    block_is = part_is n (length ys) k all deck.ranges count_is all_is
