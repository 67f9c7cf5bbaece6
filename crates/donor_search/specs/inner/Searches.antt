-- A search for the nearest donors of a record.
use Rattle.std.specs.Prelude.{◌≡◌, ℕ, ◌<◌, ◌≤◌, All, true, List, Some, length, map}
use Rattle.std.specs.Borrow.{Bor}
use Rattle.std.specs.Fn.{Shared}
use Rattle.foundation.specs.Limits.{most_weight, most_scale}
use Rattle.edit_model.specs.FieldSets.{has_number}
use Rattle.edit_model.specs.declared.value.Value.{Value}
use Rattle.donor_measure.specs.Measures.{HasMeasurable, Measures}
use Rattle.donor_measure.specs.Yardsticks.{yardstick_at}
use Rattle.donor_measure.specs.declared.yardstick.Yardstick.{Yardstick}
use Rattle.donor_search.specs.Asked.{index_field, gap_to, most_asked}
use Rattle.donor_search.specs.CleanRows.{IsRankable}
use Rattle.donor_search.specs.Decks.{IsDeckOf, slots_at}
use Rattle.donor_search.specs.Rankings.{distance_to, ranking_of}
use Rattle.donor_search.specs.declared.candidate.Candidate.{Candidate}
use Rattle.donor_search.specs.declared.axis.Axis.{Axis}
use Rattle.donor_search.specs.declared.search.Search.{Search}
use Rattle.donor_search.specs.declared.slot.Slot.{Slot}
use Rattle.donor_search.specs.inner.Candidates.{candidate_of}

-- the yardsticks that are measured by
abbrev pub yardsticks_in : {F : Type 0} → Search F → List Yardstick
yardsticks_in s = s.measure.now.yardsticks

-- how far a donor is from the record
abbrev pub far_in : {F : Type 0} → Search F → ℕ → ℕ
far_in s = distance_to (yardsticks_in s) s.sheet.now.rows s.row.now s.kept

-- the bucket gap of a donor and the record at a field
abbrev pub gap_in : {F : Type 0} → Search F → ℕ → ℕ → ℕ
gap_in s field = gap_to (yardsticks_in s) s.sheet.now.rows s.row.now field

-- the ranking that is searched for
abbrev pub ranking_in : {F : Type 0} → Search F → List ℕ
ranking_in s = ranking_of (yardsticks_in s) s.sheet.now.rows s.deck.now.donors s.row.now s.kept s.near

-- the nearest candidates are those of the ranking
abbrev pub AreRanked : {F : Type 0} → Search F → List Candidate → Type 0
AreRanked s nearest = nearest ≡ map (candidate_of (far_in s)) (ranking_in s)

-- how many donors may be measured for the ranking
abbrev pub most_in : {F : Type 0} → Search F → ℕ
most_in s =
    most_asked (yardsticks_in s) s.sheet.now.rows s.deck.now.donors s.row.now s.kept s.near
    (index_field (yardsticks_in s) s.kept) (ranking_in s)

-- the closure measures, the record and the donors can be measured, and the deck is one of these rows
pub record IsSearch {F : Type 0} (calls : Shared F (ℕ × (Bor Value × (Bor Value × Unit {0}))) ℕ) (s : Search F) : Type 0 where
  pub measures : Measures calls s.measure.now.closure (yardsticks_in s)
  pub row : HasMeasurable (yardsticks_in s) s.kept s.row.now
  pub donors : All (IsRankable (yardsticks_in s) s.sheet.now.rows s.kept) s.deck.now.donors
  pub deck : IsDeckOf (yardsticks_in s) s.sheet.now.rows s.deck.now

-- a kept numerical field, with its weight and its scale
pub record IsAxis (yardsticks : List Yardstick) (kept : ℕ) (axis : Axis) : Type 0 where
  pub field : axis.field < length yardsticks
  pub has : has_number kept axis.field ≡ true
  pub yardstick : yardstick_at yardsticks axis.field ≡ record { weight = axis.weight; scale = Some axis.scale }
  pub scale : (1 ≤ axis.scale) × (axis.scale ≤ most_scale)
  pub weight : axis.weight ≤ most_weight

-- each donor of a field's slots can be measured
abbrev pub HasSlots : {F : Type 0} → Search F → ℕ → Type 0
HasSlots s field = All (λ (x : Slot). IsRankable (yardsticks_in s) s.sheet.now.rows s.kept x.donor) (slots_at s.deck.now.index field)
