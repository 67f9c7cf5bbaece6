use Rattle.std.proofs.Common.{arith, ◌≡◌, ◌+◌, ◌<◌, [], ◌∷◌, None, Some, length, length-append, ap, ◌∙◌, subst, sym, eqb}
use Rattle.std.proofs.lemmas.List.{length-set}
use Rattle.donor_book.specs.declared.claim.Entry.{Entry}
use Rattle.donor_book.specs.declared.rule.Terms.{Terms}
use Rattle.donor_book.specs.Claims.{IsWithin, claim_of}
use Rattle.donor_book.specs.Entries.{entry_of}
use Rattle.donor_book.specs.Passes.{ArePlaced, BookName, PassState}
use Rattle.donor_book.specs.inner.Tries.{HasTriedTo}
use Rattle.donor_book.proofs.IndexLaws.{length_use, replay_push, uses_few}
use Rattle.donor_book.proofs.PassLaws.{HasSeen, in_tables, placed_on, sound_push, tried_is}
use Rattle.donor_book.proofs.shared.SharedBook.try_claim.Goals as goal

pub note_claim-requires-clause-room : goal.note_claim-requires-clause-room
note_claim-requires-clause-room c k d lt =
    let inv = c.pass.invariant in
    let few = uses_few c.pass.inside.seat.me.0.seen c.pass.inside.uses.items c.pass.inside.replies.items k d inv.10 lt in
    let room : length c.pass.inside.seat.me.0.seen < c.pass.inside.terms.rows =
    subst (λ (p : PassState). length p.seen < p.book.terms.rows) (sym c.pass.view_is) (subst (λ (n : BookName). length c.args.pass.now.seen < n.terms.rows)
    (sym c.requires.book) c.requires.room) in
    omega (arith, few, room, inv.4)

module _ (c : goal.After-pass-1) where
  terms_are : c.args.self.now.terms ≡ c.pass.inside.terms
  terms_are = sym (ap (λ (p : PassState). p.book.terms) c.pass.view_is ∙ ap (λ (n : BookName). n.terms) c.requires.book)

  me_is : c.pass.inside.seat.me ≡ (c.pass.inside.seat.me.0, [])
  me_is = λ i. (c.pass.inside.seat.me.0, c.pass.invariant.0 i)

  -- the entry that is tried
  abbrev entry : Entry
  entry = entry_of c.args.claim.row_no c.args.ranking.now c.args.claim.reply

  -- one more claim is seen, whichever way the try went
  seen_is : HasSeen c.pass.inside.terms entry c.pass.inside.seat.me.0 (eqb c.enter-found.result 0) c.read_claim.result c.enter-found.new.seat.me
  seen_is =
      let inv = c.pass.invariant in
      tried_is c.pass.inside.terms entry c.pass.inside.seat.me.0 c.enter-found.result c.read_claim.result c.enter-found.new.seat.me inv.3 inv.5
      (subst (λ (t : Terms). IsWithin t.donors t.rows c.args.claim) terms_are c.requires.claim)
      (subst (λ (p : PassState). claim_of c.args.claim.row_no p.seen ≡ None) (sym c.pass.view_is) c.requires.first)
      (subst (λ m. HasTriedTo entry m c.enter-found.result c.enter-found.new.seat.me) me_is c.enter-found.ensures.tried)
      c.read_claim.ensures

  -- and its place is behind those of the pass's other claims
  placed_is : ArePlaced c.enter-found.new.seat.me.0.seen c.enter-found.new.seat.me.0.mine
  placed_is = placed_on c.pass.inside.terms entry c.pass.inside.seat.me.0 (eqb c.enter-found.result 0) c.read_claim.result c.enter-found.new.seat.me seen_is
      c.pass.invariant.11

pub returns-clause-placed : goal.returns-clause-placed
returns-clause-placed c = placed_is c

pub invariant_of-pass : goal.invariant_of-pass
invariant_of-pass c =
    let inv = c.pass.invariant in
    let h = seen_is c in
    let seen = c.pass.inside.seat.me.0.seen in
    let more : length c.enter-found.new.seat.me.0.seen ≡ length seen + 1 = ap length h.seen ∙ length-append seen (c.read_claim.result ∷ []) in (
      h.slots,
      h.passes ∙ inv.1,
      h.heard ∙ inv.2,
      h.terms_are ∙ inv.3,
      inv.4,
      inv.5,
      omega (arith, more, inv.6),
      rw h.seen (sound_push c.pass.inside.terms seen c.read_claim.result inv.7 h.within h.first),
      rw c.note_claim.ensures.uses (length_use c.read_claim.result.reply c.pass.inside.uses.items ∙ inv.8),
      rw c.note_claim.ensures.replies (length-set c.pass.inside.replies.items c.read_claim.result.row_no (Some c.read_claim.result.reply) ∙ inv.9),
      rw (h.seen, c.note_claim.ensures.uses, c.note_claim.ensures.replies) (replay_push seen c.pass.inside.uses.items c.pass.inside.replies.items
          c.read_claim.result inv.10
          (in_tables c.pass.inside.terms c.pass.inside.uses.items c.pass.inside.replies.items c.read_claim.result inv.8 inv.9 h.within) h.first),
      placed_is c,
    )
