use Rattle.std.proofs.Common.{◌≡◌, ◌∙◌, ℕ, ◌+◌, ◌-◌, ◌*◌, ◌<◌, ◌≤◌, List, length, ap, refl, sym, subst, arith}
use Rattle.std.specs.Borrow.{Bor}
use Rattle.std.specs.Fn.{Shared}
use Rattle.edit_model.specs.declared.value.Value.{Value}
use Rattle.donor_measure.specs.Buckets.{marks_of}
use Rattle.donor_search.specs.CleanRows.{row_at}
use Rattle.donor_search.specs.Decks.{block_ranges, block_size, slot_at, slots_at}
use Rattle.donor_search.specs.declared.passing.Passing.{Passing}
use Rattle.donor_search.specs.declared.profile.Weighed.{Weighed}
use Rattle.donor_search.specs.declared.ranges.MarkRange.{MarkRange}
use Rattle.donor_search.specs.inner.Passings.{AreFar, IsPassing, slots_of}
use Rattle.donor_search.specs.inner.Profiles.{told_by_ranges}
use Rattle.donor_search.specs.inner.Searches.{HasSlots, far_in, yardsticks_in}
use Rattle.donor_search.proofs.ProfileLaws.{farther_told, weighed_long}
use Rattle.donor_search.proofs.RangeLaws.{part_long, ranges_tell}

-- A block of donors of which the ranges tell that each is far.

last_block : (blocks end most : ℕ) → 1 ≤ end → blocks * block_size ≡ end → end ≤ most → (blocks - 1) * block_size + block_size ≤ most
last_block blocks end most some is within = omega (arith, some, is, within)

at_place : (blocks end i : ℕ) → 1 ≤ end → blocks * block_size ≡ end → end - block_size ≤ i → i < end
    → ((blocks - 1) * block_size + (i - (blocks - 1) * block_size) ≡ i) × (i - (blocks - 1) * block_size < block_size)
at_place blocks end i some is least less = (omega (arith, some, is, least, less), omega (arith, some, is, least, less))

pub whole_block : (blocks end : ℕ) → 1 ≤ end → blocks * block_size ≡ end → block_size ≤ end
whole_block blocks end some is = omega (arith, some, is)

-- the last of so many blocks, which ends at this place
module _ {F : Type 0} (p : Passing F) (blocks end : ℕ) (first : p.field ≡ p.search.now.deck.now.first) (some : 1 ≤ end) (is : blocks * block_size ≡ end)
    (within : end ≤ length (slots_of p)) where
  pub block_there : (blocks - 1) * block_size + block_size ≤ length (slots_at p.search.now.deck.now.index p.search.now.deck.now.first)
  block_there = subst (λ f. (blocks - 1) * block_size + block_size ≤ length (slots_at p.search.now.deck.now.index f)) first
      (last_block blocks end (length (slots_of p)) some is within)

  module _ (calls : Shared F (ℕ × (Bor Value × (Bor Value × Unit {0}))) ℕ) (passing : IsPassing calls p) (ranges : List MarkRange)
      (ranges_is : ranges ≡ block_ranges (length (yardsticks_in p.search.now)) p.search.now.deck.now.ranges (blocks - 1)) where
    -- a range for each field
    pub as_many_ranges : length p.own.now ≡ length ranges
    as_many_ranges =
        let s = p.search.now in
        let ys = yardsticks_in s in
        let own = ap (λ (ws : List Weighed). length ws) passing.profile.weighed ∙ weighed_long 0 ys s.kept s.row.now in
        let all = ap (λ (rs : List MarkRange). length rs) ranges_is
        ∙ part_long (length ys) ((blocks - 1) * length ys) s.deck.now.ranges (passing.search.deck.blocks (blocks - 1) block_there) in
        own ∙ sym all

    pub block_far : p.most < told_by_ranges p.own.now ranges → AreFar p (end - block_size) end
    block_far more i least less =
        let s = p.search.now in
        let ys = yardsticks_in s in
        let block : ℕ = blocks - 1 in
        let slots = slots_at s.deck.now.index s.deck.now.first in
        let j : ℕ = i - block * block_size in
        let here : (block * block_size + j ≡ i) × (j < block_size) = at_place blocks end i some is least less in
        let row = row_at s.sheet.now.rows (slot_at slots (block * block_size + j)).donor in
        let tell = ranges_tell p.own.now (block_ranges (length ys) s.deck.now.ranges block) (marks_of ys row)
        (passing.search.deck.ranges block j block_there here.1) in
        let told : p.most < told_by_ranges p.own.now (block_ranges (length ys) s.deck.now.ranges block) =
        subst (λ (rs : List MarkRange). p.most < told_by_ranges p.own.now rs) ranges_is more in
        let can = (subst (λ f. HasSlots s f) first passing.slots) (block * block_size + j) (record { bucket = 0; donor = 0 })
        (omega (arith, block_there, here.1)) in
        let far : p.most < far_in s (slot_at slots (block * block_size + j)).donor =
        farther_told ys s.kept s.row.now row p.own.now (marks_of ys row) passing.profile.weighed refl
        p.most passing.profile.fit passing.search.row can.1 (omega (arith, told, tell)) in
        subst (λ f. p.most < far_in s (slot_at (slots_at s.deck.now.index f) i).donor) (sym first)
        (subst (λ k. p.most < far_in s (slot_at slots k).donor) here.0 far)
