use Rattle.std.proofs.Common.{◌≤◌, ◌-◌, length, map}
use Rattle.donor_search.specs.declared.slot.Slot.{Slot}
use Rattle.donor_search.specs.inner.Searches.{far_in, gap_in}
use Rattle.donor_search.specs.inner.Spans.{IsSpan}
use Rattle.donor_search.proofs.GapLaws.{AreWalked}
use Rattle.donor_search.proofs.WalkLaws.{Walked}
use Rattle.donor_search.proofs.walk.walk.Given as goal

abbrev pub invariant-loop-slots : goal.invariant-loop-slots
invariant-loop-slots g l = record {
  are : AreWalked (far_in l.search) (gap_in l.search l.axis.field) l.axis l.bucket l.search.deck.now.donors l.slots;
  span : IsSpan l.slots l.bucket l.span;
  walked : Walked (far_in l.search) (gap_in l.search l.axis.field) l.search.near
      (map (λ (s : Slot). s.donor) l.slots) l.span l.nearest.items l.fn.steps l.steps;
  few : length l.nearest.items ≤ l.search.near;
}

abbrev pub decreases-loop-slots : goal.decreases-loop-slots
decreases-loop-slots g l = length l.slots - (l.span.high - l.span.low)
