-- The part of the slots of a field that was walked over.
use Rattle.std.specs.Prelude.{◌≡◌, ◌⊎◌, ℕ, ◌+◌, ◌-◌, ◌*◌, ◌<◌, ◌≤◌, List, length, min, slice_index_or, take}
use Rattle.std.specs.Int.{abs_diff}
use Rattle.donor_search.specs.Decks.{slot_at}
use Rattle.donor_search.specs.Rankings.{placed}
use Rattle.donor_search.specs.declared.axis.Axis.{Axis}
use Rattle.donor_search.specs.declared.candidate.Candidate.{Candidate}
use Rattle.donor_search.specs.declared.slot.Slot.{Slot}
use Rattle.donor_search.specs.declared.span.Span.{Span}
use Rattle.donor_search.specs.inner.Candidates.{candidate_of, is_before}

-- the bucket of the slot at a place
abbrev pub bucket_at : List Slot → ℕ → ℕ
bucket_at slots i = (slice_index_or slots i (record { bucket = 0; donor = 0 })).bucket

-- a place that is not in the span
abbrev pub IsOutside : Span → ℕ → Type 0
IsOutside span i = (i < span.low) ⊎ (span.high ≤ i)

-- the slots below the span are of buckets up to this one, and those above it of buckets from it on
pub record IsSpan (slots : List Slot) (bucket : ℕ) (span : Span) : Type 0 where
  pub rising : span.low ≤ span.high
  pub within : span.high ≤ length slots
  pub below : (i : ℕ) → i < span.low → bucket_at slots i ≤ bucket
  pub above : (i : ℕ) → span.high ≤ i → i < length slots → bucket ≤ bucket_at slots i

-- a place next to the span, of which the bucket is as near as that of any other outside
pub record IsNext (slots : List Slot) (bucket : ℕ) (span : Span) (place : ℕ) : Type 0 where
  pub within : place < length slots
  pub next : (place + 1 ≡ span.low) ⊎ (place ≡ span.high)
  pub near : (i : ℕ) → i < length slots → IsOutside span i
      → abs_diff bucket (bucket_at slots place) ≤ abs_diff bucket (bucket_at slots i)

-- the span has one place more, next to it
abbrev pub IsWider : Span → ℕ → Span → Type 0
IsWider old place new = ((place + 1 ≡ old.low) × (new.low ≡ place) × (new.high ≡ old.high))
    ⊎ ((place ≡ old.high) × (new.low ≡ old.low) × (new.high ≡ place + 1))

-- the gap of two buckets at a field
abbrev pub bucket_gap_at : Axis → ℕ → ℕ → ℕ
bucket_gap_at axis a b = axis.weight * min 1000 (abs_diff a b - 1)

-- the span has places more, and no donor of these has a place among the nearest
pub record IsPast (far : ℕ → ℕ) (near : ℕ) (slots : List Slot) (old : Span) (nearest : List Candidate) (new : Span) : Type 0 where
  pub lower : new.low ≤ old.low
  pub higher : old.high ≤ new.high
  pub within : new.high ≤ length slots
  pub closed : (i : ℕ) → IsOutside old i → new.low ≤ i → i < new.high
      → nearest ≡ take near (placed is_before (candidate_of far (slot_at slots i).donor) nearest)

-- the donors at the places from `low` up to `high`, without that, are farther than this
abbrev pub AreFarther : (ℕ → ℕ) → ℕ → List Slot → ℕ → ℕ → Type 0
AreFarther far most slots low high = (i : ℕ) → low ≤ i → i < high → most < far (slot_at slots i).donor
