use Rattle.std.proofs.Common.{◌≡◌, ◌≤◌, ◌<◌, ◌+◌, ◌-◌, ℕ, List, arith, rules, ap, length, map, refl, sym, subst, Option, []}
use Rattle.donor_search.specs.Asked.{most_asked}
use Rattle.donor_search.specs.declared.candidate.Candidate.{Candidate}
use Rattle.donor_search.specs.declared.slot.Slot.{Slot}
use Rattle.donor_search.specs.Decks.{slots_at}
use Rattle.donor_search.specs.inner.Spans.{IsPast}
use Rattle.donor_search.specs.inner.Candidates.{IsClosedAt, IsOpenOrReaches, candidate_of, is_before}
use Rattle.donor_search.specs.inner.Searches.{far_in, gap_in, ranking_in, yardsticks_in}
use Rattle.donor_search.specs.Rankings.{IsInOrder}
use Rattle.donor_search.proofs.GapLaws.{slots_rankable, slots_walked}
use Rattle.donor_search.proofs.OrderLaws.{nearest_order}
use Rattle.donor_search.proofs.RankingLaws.{few_taken}
use Rattle.donor_search.proofs.WalkLaws.{Walked, walked_none}
use Rattle.donor_search.proofs.WalkSteps.{past_walked, span_grows, span_past, span_wider, step_walked, steps_all, steps_few, steps_more, stopped_all, whole_all}
use Rattle.donor_search.proofs.walk.walk.Goals as goal

pub loop-slots-init : goal.loop-slots-init
loop-slots-init g c =
    let s = c.args.search.now in
    let none : c.new-nearest.result.items ≡ [] = c.new-nearest.ensures.items in
    let size : length c.new-nearest.result.items ≡ 0 = ap (λ (cs : List Candidate). length cs) none in
    record {
      are = slots_walked g.F.Fn s c.args.axis c.slots-slots.result.now c.bucket_no-bucket.result c.value.result.now c.requires.search c.requires.profile.fit
          c.requires.axis c.slots-slots.ensures c.value.ensures c.bucket_no-bucket.ensures.is;
      span = c.at-span.ensures.span;
      walked = subst (λ (cs : List Candidate). Walked (far_in s) (gap_in s c.args.axis.field) s.near
          (map (λ (x : Slot). x.donor) c.slots-slots.result.now) c.at-span.result cs c.args.steps.now c.args.steps.now) (sym none)
          (walked_none (far_in s) (gap_in s c.args.axis.field) s.near
          (map (λ (x : Slot). x.donor) c.slots-slots.result.now) c.at-span.result c.args.steps.now c.at-span.ensures.none);
      few = omega (arith, size);
    }

pub len-requires : goal.len-requires
len-requires g c = c.loop-slots.invariant.span.rising

pub next-place-requires-clause-span : goal.next-place-requires-clause-span
next-place-requires-clause-span g c = c.loop-slots.invariant.span

pub is_closed_at-requires-clause-few : goal.is_closed_at-requires-clause-few
is_closed_at-requires-clause-few g c =
    let same = ap (λ (cs : List Candidate). length cs) c.deref.ensures.value in omega (arith, same, c.loop-slots.invariant.few)

pub is_closed_at-requires-clause-order : goal.is_closed_at-requires-clause-order
is_closed_at-requires-clause-order g c =
    let s = c.args.search.now in
    let walked = c.loop-slots.invariant.walked in
    subst (λ (cs : List Candidate). IsInOrder is_before cs) (sym c.deref.ensures.value)
    (nearest_order s.near (map (candidate_of (far_in s)) walked.seen) c.loop-slots.nearest.items walked.ranked)

pub returns-then-is_closed_at-clause-ranked : goal.returns-then-is_closed_at-clause-ranked
returns-then-is_closed_at-clause-ranked g c =
    let near = c.args.search.now.near in
    let inv = c.loop-slots.invariant in
    let closed = subst (λ (cs : List Candidate). IsClosedAt near c.gap.result cs) c.deref.ensures.value (c.is_closed_at.ensures.closed (search rules)) in
    stopped_all inv.are inv.walked c.next-place.result c.next-place.ensures (subst (λ n. IsClosedAt near n c.loop-slots.nearest.items) c.gap.ensures closed)

pub returns-then-is_closed_at-clause-steps : goal.returns-then-is_closed_at-clause-steps
returns-then-is_closed_at-clause-steps g c =
    let s = c.args.search.now in
    let inv = c.loop-slots.invariant in
    let closed = subst (λ (cs : List Candidate). IsClosedAt s.near c.gap.result cs) c.deref.ensures.value (c.is_closed_at.ensures.closed (search rules)) in
    let ranked = stopped_all inv.are inv.walked c.next-place.result c.next-place.ensures
    (subst (λ n. IsClosedAt s.near n c.loop-slots.nearest.items) c.gap.ensures closed) in
    subst (λ (o : Option ℕ). c.loop-slots.steps ≤ c.args.steps.now + most_asked (yardsticks_in s) s.sheet.now.rows s.deck.now.donors s.row.now s.kept s.near o
    (ranking_in s)) (sym c.requires.first)
    (steps_few inv.are inv.walked (ranking_in s) ranked)

pub returns-then-is_closed_at-clause-most : goal.returns-then-is_closed_at-clause-most
returns-then-is_closed_at-clause-most g c = steps_all c.loop-slots.invariant.are c.loop-slots.invariant.walked

pub pass_far_donors-wider-requires-clause-field : goal.pass_far_donors-wider-requires-clause-field
pass_far_donors-wider-requires-clause-field g c =
    let s = c.args.search.now in
    slots_rankable g.F.Fn s c.args.axis (slots_at s.deck.now.index c.args.axis.field) c.requires.search c.requires.axis refl

pub pass_far_donors-wider-requires-clause-order : goal.pass_far_donors-wider-requires-clause-order
pass_far_donors-wider-requires-clause-order g c =
    let s = c.args.search.now in
    subst (λ (cs : List Candidate). IsInOrder is_before cs) (sym c.deref-in-loop-slots.ensures.value)
    (nearest_order s.near (map (candidate_of (far_in s)) c.loop-slots.invariant.walked.seen) c.loop-slots.nearest.items c.loop-slots.invariant.walked.ranked)

pub loop-slots-preserved-then-len : goal.loop-slots-preserved-then-len
loop-slots-preserved-then-len g c =
    let s = c.args.search.now in
    let far : ℕ → ℕ = far_in s in
    let new = c.pass_far_donors-wider.result in
    let inv = c.loop-slots.invariant in
    let there : IsPast far s.near (slots_at s.deck.now.index c.args.axis.field) c.loop-slots.span c.loop-slots.nearest.items new =
    subst (λ (cs : List Candidate). IsPast far s.near (slots_at s.deck.now.index c.args.axis.field) c.loop-slots.span cs new)
    c.deref-in-loop-slots.ensures.value c.pass_far_donors-wider.ensures in
    let is : IsPast far s.near c.slots-slots.result.now c.loop-slots.span c.loop-slots.nearest.items new =
    subst (λ (ss : List Slot). IsPast far s.near ss c.loop-slots.span c.loop-slots.nearest.items new) (sym c.slots-slots.ensures) there in
    record {
      are = inv.are;
      span = span_past c.slots-slots.result.now c.bucket_no-bucket.result c.loop-slots.span new inv.span is.lower is.higher is.within;
      walked = past_walked inv.are inv.walked new is inv.span.rising;
      few = inv.few;
    }

pub rank-requires-clause-donor : goal.rank-requires-clause-donor
rank-requires-clause-donor g c =
    let s = c.args.search.now in
    slots_rankable g.F.Fn s c.args.axis c.slots-slots.result.now c.requires.search c.requires.axis c.slots-slots.ensures c.next-place.result
    (record { bucket = 0; donor = 0 }) c.next-place.ensures.within

pub marks_in_walk-marks-requires-clause-donor : goal.marks_in_walk-marks-requires-clause-donor
marks_in_walk-marks-requires-clause-donor g c =
    let s = c.args.search.now in
    (slots_rankable g.F.Fn s c.args.axis c.slots-slots.result.now c.requires.search c.requires.axis c.slots-slots.ensures c.next-place.result
    (record { bucket = 0; donor = 0 }) c.next-place.ensures.within).0

pub rank-requires-clause-few : goal.rank-requires-clause-few
rank-requires-clause-few g c = c.loop-slots.invariant.few

pub rank-requires-clause-order : goal.rank-requires-clause-order
rank-requires-clause-order g c =
    let s = c.args.search.now in
    nearest_order s.near (map (candidate_of (far_in s)) c.loop-slots.invariant.walked.seen) c.loop-slots.nearest.items c.loop-slots.invariant.walked.ranked

pub returns-in_err-rank-clause-most : goal.returns-in_err-rank-clause-most
returns-in_err-rank-clause-most g c =
    let inv = c.loop-slots.invariant in
    let less : c.loop-slots.span.high - c.loop-slots.span.low < length c.slots-slots.result.now = omega (arith, c.len.ensures, c.loop-slots-test.true) in
    steps_more inv.are inv.walked c.rank.new.steps inv.span less c.rank.ensures.steps

pub with-span-requires-clause-rising : goal.with-span-requires-clause-rising
with-span-requires-clause-rising g c = c.loop-slots.invariant.span.rising

pub loop-slots-smaller : goal.loop-slots-smaller
loop-slots-smaller g c =
    let less : c.loop-slots.span.high - c.loop-slots.span.low < length c.slots-slots.result.now = omega (arith, c.len.ensures, c.loop-slots-test.true) in
    span_grows c.loop-slots.span c.with-span.result c.next-place.result
    (length c.slots-slots.result.now) c.loop-slots.invariant.span.rising less c.with-span.ensures

pub loop-slots-preserved : goal.loop-slots-preserved
loop-slots-preserved g c =
    let near = c.args.search.now.near in
    let place = c.next-place.result in
    let inv = c.loop-slots.invariant in
    let room = subst (λ (cs : List Candidate). IsOpenOrReaches near c.gap.result cs) c.deref.ensures.value (c.is_closed_at.ensures.reaches (search rules)) in
    record {
      are = inv.are;
      span = span_wider c.slots-slots.result.now c.bucket_no-bucket.result c.loop-slots.span c.with-span.result place inv.span c.next-place.ensures.within
          c.with-span.ensures;
      walked = step_walked inv.are inv.walked c.with-span.result place _ c.rank.new.best.items c.rank.new.steps c.rank.ensures.steps inv.span.rising
          c.next-place.ensures c.with-span.ensures inv.few
          (subst (λ n. IsOpenOrReaches near n c.loop-slots.nearest.items) c.gap.ensures room) refl c.in_ok-rank.ensures.ranks;
      few = few_taken near _ c.rank.new.best.items c.in_ok-rank.ensures.ranks;
    }

pub returns-clause-ranked : goal.returns-clause-ranked
returns-clause-ranked g c =
    let inv = c.loop-slots.invariant in
    let whole : length c.slots-slots.result.now ≤ c.loop-slots.span.high - c.loop-slots.span.low = omega (arith, c.len.ensures, c.loop-slots-test.false) in
    whole_all inv.are inv.walked inv.span whole

pub returns-clause-steps : goal.returns-clause-steps
returns-clause-steps g c =
    let s = c.args.search.now in
    let inv = c.loop-slots.invariant in
    let whole : length c.slots-slots.result.now ≤ c.loop-slots.span.high - c.loop-slots.span.low = omega (arith, c.len.ensures, c.loop-slots-test.false) in
    subst (λ (o : Option ℕ). c.loop-slots.steps ≤ c.args.steps.now + most_asked (yardsticks_in s) s.sheet.now.rows s.deck.now.donors s.row.now s.kept s.near o
    (ranking_in s)) (sym c.requires.first)
    (steps_few inv.are inv.walked (ranking_in s) (whole_all inv.are inv.walked inv.span whole))

pub returns-clause-most : goal.returns-clause-most
returns-clause-most g c = steps_all c.loop-slots.invariant.are c.loop-slots.invariant.walked
