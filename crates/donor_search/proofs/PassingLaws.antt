use Rattle.std.proofs.Common.{◌≡◌, ◌⊎◌, inl, inr, ℕ, ◌+◌, ◌-◌, ◌<◌, ◌≤◌, List, subst, arith, take, length}
use Rattle.std.proofs.lemmas.Bool.{cases_lt}
use Rattle.donor_search.specs.Decks.{slot_at}
use Rattle.donor_search.specs.Rankings.{placed}
use Rattle.donor_search.specs.declared.candidate.Candidate.{Candidate}
use Rattle.donor_search.specs.declared.slot.Slot.{Slot}
use Rattle.donor_search.specs.declared.span.Span.{Span}
use Rattle.donor_search.specs.inner.Candidates.{IsClosedAt, candidate_of, is_before}
use Rattle.donor_search.specs.inner.Spans.{AreFarther, IsOutside, IsPast}

-- Runs of donors that are farther than the last of the nearest.

module _ (far : ℕ → ℕ) (most : ℕ) (slots : List Slot) where
  -- no place is farther by nothing
  pub farther_none : (low high : ℕ) → high ≤ low → AreFarther far most slots low high
  farther_none low high none i least less = absurd (omega (arith, none, least, less))

  -- one place more above
  pub farther_above : (low place : ℕ) → AreFarther far most slots low place → most < far (slot_at slots place).donor → AreFarther far most slots low (place + 1)
  farther_above low place all here i least less = by (cases_lt i place)
    where
      by : (i < place) ⊎ (place ≤ i) → most < far (slot_at slots i).donor
      by (inl below) = all i least below
      by (inr more) = subst (λ n. most < far (slot_at slots n).donor) (same more) here
        where
          same : place ≤ i → place ≡ i
          same more = omega (arith, less, more)

  -- one place more below
  pub farther_below : (place high : ℕ) → 1 ≤ place → AreFarther far most slots place high → most < far (slot_at slots (place - 1)).donor
      → AreFarther far most slots (place - 1) high
  farther_below place high some all here i least less = by (cases_lt i place)
    where
      by : (i < place) ⊎ (place ≤ i) → most < far (slot_at slots i).donor
      by (inl below) = subst (λ n. most < far (slot_at slots n).donor) (same below) here
        where
          same : i < place → place - 1 ≡ i
          same below = omega (arith, some, least, below)
      by (inr more) = all i more less

  -- donors farther than the last of the nearest have no place among them
  module _ (near : ℕ) (nearest : List Candidate) (closed : IsClosedAt near (most + 1) nearest) where
    pub past_above : (old new : Span) → new.low ≡ old.low → old.high ≤ new.high → new.high ≤ length slots → AreFarther far most slots old.high new.high
        → IsPast far near slots old nearest new
    past_above old new same higher within all = record {
      lower = omega (arith, same);
      higher = higher;
      within = within;
      closed = passed;
    }
      where
        passed : (i : ℕ) → IsOutside old i → new.low ≤ i → i < new.high
            → nearest ≡ take near (placed is_before (candidate_of far (slot_at slots i).donor) nearest)
        passed i (inl below) least less = absurd (omega (arith, same, below, least))
        passed i (inr above) least less = let more = all i above less in closed (candidate_of far (slot_at slots i).donor) (omega (arith, more))

    pub past_below : (old new : Span) → new.high ≡ old.high → new.low ≤ old.low → old.high ≤ length slots → AreFarther far most slots new.low old.low
        → IsPast far near slots old nearest new
    past_below old new same lower within all = record {
      lower = lower;
      higher = omega (arith, same);
      within = omega (arith, same, within);
      closed = passed;
    }
      where
        passed : (i : ℕ) → IsOutside old i → new.low ≤ i → i < new.high
            → nearest ≡ take near (placed is_before (candidate_of far (slot_at slots i).donor) nearest)
        passed i (inl below) least less = let more = all i least below in closed (candidate_of far (slot_at slots i).donor) (omega (arith, more))
        passed i (inr above) least less = absurd (omega (arith, same, above, less))
