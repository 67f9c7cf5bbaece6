use Rattle.std.proofs.Common.{◌≡◌, inl, inr, ℕ, ◌+◌, ◌-◌, ◌<◌, ◌≤◌, ◌==◌, ◌&&◌, Bool, true, false, List, get_or, length, map, take, refl, sym, ap, ◌∙◌, subst}
use Rattle.std.proofs.Common.{arith, if◌then◌else◌, nat_le, nat_lt}
use Rattle.std.specs.List.{count_by}
use Rattle.std.proofs.lemmas.List.{length-map}
use Rattle.donor_search.specs.Rankings.{in_order, is_nearer, placed}
use Rattle.donor_search.specs.declared.axis.Axis.{Axis}
use Rattle.donor_search.specs.declared.candidate.Candidate.{Candidate}
use Rattle.donor_search.specs.declared.slot.Slot.{Slot}
use Rattle.donor_search.specs.declared.span.Span.{Span}
use Rattle.donor_search.specs.inner.Candidates.{IsClosedAt, IsOpenOrReaches, candidate_of, is_before}
use Rattle.donor_search.specs.inner.Spans.{IsNext, IsOutside, IsPast, IsSpan, IsWider, bucket_at, bucket_gap_at}
use Rattle.donor_search.proofs.GapLaws.{AreWalked, gap_rises, get_mapped}
use Rattle.donor_search.proofs.WalkLaws.{Walked, ones, asked_all, asked_few, asked_within, walked_all, walked_more, walked_past}

-- The steps of the walk, by slots.

names : List Slot → List ℕ
names slots = map (λ (s : Slot). s.donor) slots

-- a wider span
pub span_wider : (slots : List Slot) (bucket : ℕ) (old new : Span) (place : ℕ) → IsSpan slots bucket old → place < length slots → IsWider old place new
    → IsSpan slots bucket new
span_wider slots bucket old new place is below (inl low) = record {
  rising = omega (arith, low.0, low.1, low.2, is.rising);
  within = omega (arith, low.2, is.within);
  below = λ i less. is.below i (omega (arith, low.0, low.1, less));
  above = λ i least more. is.above i (omega (arith, low.2, least)) more;
}
span_wider slots bucket old new place is below (inr high) = record {
  rising = omega (arith, high.0, high.1, high.2, is.rising);
  within = omega (arith, high.2, below);
  below = λ i less. is.below i (omega (arith, high.1, less));
  above = λ i least more. is.above i (omega (arith, high.0, high.2, least)) more;
}

-- the span grows
pub span_grows : (old new : Span) (place most : ℕ) → old.low ≤ old.high → old.high - old.low < most → IsWider old place new
    → most - (new.high - new.low) < most - (old.high - old.low)
span_grows old new place most rising less (inl low) = omega (arith, rising, less, low.0, low.1, low.2)
span_grows old new place most rising less (inr high) = omega (arith, rising, less, high.0, high.1, high.2)

-- a span that is wider on both sides
pub span_past : (slots : List Slot) (bucket : ℕ) (old new : Span) → IsSpan slots bucket old → new.low ≤ old.low → old.high ≤ new.high → new.high ≤ length slots
    → IsSpan slots bucket new
span_past slots bucket old new is lower higher within = record {
  rising = omega (arith, lower, higher, is.rising);
  within = within;
  below = λ i less. is.below i (omega (arith, lower, less));
  above = λ i least more. is.above i (omega (arith, higher, least)) more;
}

-- and of more places
pub span_longer : (old new : Span) (most : ℕ) → old.high - old.low < new.high - new.low → new.high ≤ most
    → most - (new.high - new.low) < most - (old.high - old.low)
span_longer old new most more within = omega (arith, more, within)

-- ---- what the walk knows, of which the facts tell the donors, the slots and the span

module _ {far gap : ℕ → ℕ} {axis : Axis} {bucket : ℕ} {donors : List ℕ} {slots : List Slot} (are : AreWalked far gap axis bucket donors slots) where
  below_names : (i : ℕ) → i < length (map (λ (s : Slot). s.donor) slots) → i < length slots
  below_names i below = let l = length-map slots (λ (s : Slot). s.donor) in omega (arith, below, l)

  names_below : (i : ℕ) → i < length slots → i < length (map (λ (s : Slot). s.donor) slots)
  names_below i below = let l = length-map slots (λ (s : Slot). s.donor) in omega (arith, below, l)

  -- no gap outside is less than that of the next place
  next_least : (span : Span) (place : ℕ) → IsNext slots bucket span place → (i : ℕ) → i < length slots → IsOutside span i
      → bucket_gap_at axis bucket (bucket_at slots place) ≤ gap (get_or (map (λ (s : Slot). s.donor) slots) i 0)
  next_least span place next i below outside =
      subst (λ n. bucket_gap_at axis bucket (bucket_at slots place) ≤ n) (sym (are.gaps i below))
      (gap_rises axis bucket (bucket_at slots place) (bucket_at slots i) (next.near i below outside))

  module _ {near : ℕ} {span : Span} {nearest : List Candidate} {before now : ℕ}
      (walked : Walked far gap near (map (λ (s : Slot). s.donor) slots) span nearest before now) where
    -- one place more is walked over
    pub step_walked : (new : Span) (place donor : ℕ) (after : List Candidate) (later : ℕ) → later ≤ now + 1 → span.low ≤ span.high
        → IsNext slots bucket span place → IsWider span place new → length nearest ≤ near
        → IsOpenOrReaches near (bucket_gap_at axis bucket (bucket_at slots place)) nearest
        → donor ≡ (get_or slots place (record { bucket = 0; donor = 0 })).donor → after ≡ take near (placed is_before (candidate_of far donor) nearest)
        → Walked far gap near (map (λ (s : Slot). s.donor) slots) new after before later
    step_walked new place donor after later one rising next wider few room donor_is put =
        let here : get_or (map (λ (s : Slot). s.donor) slots) place 0 ≡ donor = get_mapped slots place (record { bucket = 0; donor = 0 }) next.within
        ∙ sym donor_is in
        walked_more far gap near (map (λ (s : Slot). s.donor) slots) span new place nearest after before now later walked one
        (names_below place next.within) rising wider
        (λ i below outside. subst (λ n. n ≤ gap (get_or (map (λ (s : Slot). s.donor) slots) i 0)) (sym (are.gaps place next.within))
        (next_least span place next i (below_names i below) outside))
        (are.short (get_or (map (λ (s : Slot). s.donor) slots) place 0)) few
        (subst (λ n. IsOpenOrReaches near n nearest) (sym (are.gaps place next.within)) room)
        (put ∙ ap (λ d. take near (placed is_before (candidate_of far d) nearest)) (sym here))

    -- the walk ends since all that are left are too far
    pub stopped_all : (place : ℕ) → IsNext slots bucket span place → IsClosedAt near (bucket_gap_at axis bucket (bucket_at slots place)) nearest
        → nearest ≡ map (candidate_of far) (take near (in_order (is_nearer far) donors))
    stopped_all place next closed = walked_all far gap near (map (λ (s : Slot). s.donor) slots) donors span nearest before now walked are.same
        (λ i below outside. closed (candidate_of far (get_or (map (λ (s : Slot). s.donor) slots) i 0))
        (let n = next_least span place next i (below_names i below) outside in let s = are.short (get_or (map (λ (s : Slot). s.donor) slots) i 0) in
        omega (arith, n, s)))

    -- or since none is left
    pub whole_all : IsSpan slots bucket span → length slots ≤ span.high - span.low
        → nearest ≡ map (candidate_of far) (take near (in_order (is_nearer far) donors))
    whole_all is whole = walked_all far gap near (map (λ (s : Slot). s.donor) slots) donors span nearest before now walked are.same
        (λ i below outside. absurd (none i (below_names i below) outside))
      where
        none : (i : ℕ) → i < length slots → IsOutside span i → ⊥
        none i below (inl less) = absurd (omega (arith, is.rising, is.within, whole, less))
        none i below (inr least) = absurd (omega (arith, is.rising, is.within, whole, below, least))

    pub steps_all : now ≤ before + length donors
    steps_all = let a = asked_all far gap near (map (λ (s : Slot). s.donor) slots) donors span nearest before now walked are.same in
        omega (arith, a, walked.most)

    pub steps_few : (ranking : List ℕ) → nearest ≡ map (candidate_of far) ranking
        → now ≤ before + (if nat_lt 0 near && (length ranking == near) then count_by
        (λ d. nat_le (gap d) (far (get_or ranking (near - 1) 0))) donors else length donors)
    steps_few ranking is = by (nat_lt 0 near && (length ranking == near)) refl
      where
        full : (n l : ℕ) → (nat_lt 0 n && (l == n)) ≡ true → (1 ≤ n) × (l ≡ n)
        full n l at = (grind (arith, at), grind (arith, at))

        by : (b : Bool) → (nat_lt 0 near && (length ranking == near)) ≡ b
            → now ≤ before + (if b then count_by (λ d. nat_le (gap d) (far (get_or ranking (near - 1) 0))) donors else length donors)
        by true at =
            let both = full near (length ranking) at in
            let a = asked_few far gap near (map (λ (s : Slot). s.donor) slots) donors span nearest before now walked are.same ranking is both.0 both.1 in
            omega (arith, a, walked.most)
        by false at = steps_all

    -- a step more, where not all were walked over
    pub steps_more : (later : ℕ) → IsSpan slots bucket span → span.high - span.low < length slots → later ≤ now + 1 → later ≤ before + length donors
    steps_more later is less one =
        let e = are.same (λ x. 1) in
        let l = length-map slots (λ (s : Slot). s.donor) in
        let a = asked_within far gap near (map (λ (s : Slot). s.donor) slots) donors span nearest before now walked are.same is.rising
        (omega (arith, l, is.within)) in
        omega (arith, less, one, walked.most, a, e, ones donors, ones (map (λ (s : Slot). s.donor) slots), l)

    -- donors beside the span that have no place among the nearest are passed over
    pub past_walked : (new : Span) → IsPast far near slots span nearest new → span.low ≤ span.high
        → Walked far gap near (map (λ (s : Slot). s.donor) slots) new nearest before now
    past_walked new past rising =
        walked_past far gap near (map (λ (s : Slot). s.donor) slots) span new nearest before now walked past.lower rising past.higher
        (λ i below outside least less. subst (λ d. nearest ≡ take near (placed is_before (candidate_of far d) nearest))
        (sym (get_mapped slots i (record { bucket = 0; donor = 0 }) (below_names i below))) (past.closed i outside least less))
