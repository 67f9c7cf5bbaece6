use Rattle.std.proofs.Common.{◌∙◌, ◌<◌, All, List, ap, arith, length, rules, subst, sym, take}
use Rattle.std.proofs.lemmas.List.{take_all}
use Rattle.std.specs.Bool.{Decides}
use Rattle.std.proofs.lemmas.Bool.Decides.{not_from_Decides}
use Rattle.donor_book.specs.declared.claim.Entry.{Entry}
use Rattle.donor_book.specs.Entries.{IsEntryWithin, IsLegalHistory, wins_of}
use Rattle.donor_book.specs.inner.Indexes.{IsNext}
use Rattle.donor_book.proofs.ReplayLaws.{donor_within, first_at, read_more, read_none, room_within}
use Rattle.donor_book.proofs.replay.first_illegal.Goals as goal
use Rattle.donor_book.proofs.replay.first_illegal.Goals.{After-is_next}

pub loop-place-init : goal.loop-place-init
loop-place-init c = rw (c.in_ok-uses.ensures.items_if_clones_equal (λ y e. e), c.in_ok-replies.ensures)
    (read_none c.args.limit c.args.donors c.args.rows (search rules))

module _ (c : After-is_next) where
  -- whether the entry may stand behind those that were read
  told : Decides c.is_next.result (IsNext c.args.limit (wins_of (take c.loop-place.place c.args.claims.now)) c.index-claims-place.result)
  told = c.is_next.ensures (wins_of (take c.loop-place.place c.args.claims.now)) (rw (c.deref.ensures.value, c.deref-in-loop-place.ensures.value)
      c.loop-place.invariant.0.2)

pub returns-then-not-is_next-clause-illegal : goal.returns-then-not-is_next-clause-illegal
returns-then-not-is_next-clause-illegal c =
    let at = (goal.at.returns-then-not-is_next-clause-illegal c).After-is_next in
    first_at c.args.limit c.args.donors c.args.rows c.args.claims.now c.loop-place.place c.index-claims-place.result c.loop-place.uses.items
    c.loop-place.replies.items c.loop-place.invariant c.loop-place-test.true c.index-claims-place.is
    (not_from_Decides c.is_next.result (told at) c.if-not-is_next.true)

pub note_claim-requires-clause-donor : goal.note_claim-requires-clause-donor
note_claim-requires-clause-donor c =
    let at = (goal.at.note_claim-requires-clause-donor c).After-is_next in
    donor_within c.args.limit c.args.donors c.args.rows c.args.claims.now c.loop-place.place c.index-claims-place.result c.loop-place.uses.items
    c.loop-place.replies.items c.loop-place.invariant c.loop-place-test.true c.index-claims-place.is c.requires.within ((told at).0 c.if-not-is_next.false)

pub note_claim-requires-clause-room : goal.note_claim-requires-clause-room
note_claim-requires-clause-room c =
    let at = (goal.at.note_claim-requires-clause-room c).After-is_next in
    room_within c.args.limit c.args.donors c.args.rows c.args.claims.now c.loop-place.place c.index-claims-place.result c.loop-place.uses.items
    c.loop-place.replies.items c.loop-place.invariant c.loop-place-test.true c.index-claims-place.is c.requires.within ((told at).0 c.if-not-is_next.false)

pub loop-place-preserved : goal.loop-place-preserved
loop-place-preserved c =
    let at = (goal.at.loop-place-preserved c).After-is_next in
    rw (c.note_claim.ensures.uses, c.note_claim.ensures.replies)
    (read_more c.args.limit c.args.donors c.args.rows c.args.claims.now c.loop-place.place c.index-claims-place.result c.loop-place.uses.items
    c.loop-place.replies.items c.loop-place.invariant c.loop-place-test.true c.index-claims-place.is c.requires.within ((told at).0 c.if-not-is_next.false))

pub is_next-requires : goal.is_next-requires
is_next-requires c =
    let entry = c.index-claims-place.result in
    let within = subst (IsEntryWithin c.args.donors c.args.rows) (sym c.index-claims-place.is)
    (c.requires.within c.loop-place.place entry c.loop-place-test.true) in
    let inv = c.loop-place.invariant in (
      subst (λ n. entry.row_no < n) (sym (ap length c.deref-in-loop-place.ensures.value ∙ inv.2)) within.0,
      subst (λ n. All (λ donor. donor < n) entry.ranking) (sym (ap length c.deref.ensures.value ∙ inv.1)) within.1,
    )

pub note_claim-requires-clause-row : goal.note_claim-requires-clause-row
note_claim-requires-clause-row c =
    let entry = c.index-claims-place.result in
    let within = subst (IsEntryWithin c.args.donors c.args.rows) (sym c.index-claims-place.is)
    (c.requires.within c.loop-place.place entry c.loop-place-test.true) in
    subst (λ n. entry.row_no < n) (sym c.loop-place.invariant.2) within.0

pub returns-clause-legal : goal.returns-clause-legal
returns-clause-legal c =
    let claims = c.args.claims.now in
    subst (λ (l : List Entry). IsLegalHistory c.args.limit l) (take_all c.loop-place.place claims (omega (arith, c.loop-place-test.false)))
    c.loop-place.invariant.0.0
