use Rattle.std.proofs.Common.{arith, ◌≡◌, length, ap, ◌∙◌, subst, sym}
use mathlib.Core.Option.{none}
use Rattle.atomic_table.specs.Table.{step}
use Rattle.donor_book.specs.declared.rule.Terms.{Terms}
use Rattle.donor_book.specs.Claims.{IsWithin, first_free}
use Rattle.donor_book.specs.Entries.{entry_of}
use Rattle.donor_book.proofs.Moves.{tries}
use Rattle.donor_book.proofs.shared.SharedBook.enter.Goals as goal

pub compare_exchange-requires : goal.compare_exchange-requires
compare_exchange-requires g c =
    let r = c.requires in
    let own = c.self.invariant in
    let terms : c.args.self.now.terms ≡ c.self.inside.table.shared.key = sym (ap (λ b. b.terms) c.self.view_is) ∙ sym own.2 in
    let me = c.args.seat.now.me in
    let rows : c.args.self.now.terms.rows ≡ c.self.inside.table.shared.key.rows = ap (λ (t : Terms). t.rows) terms in (
      r.seat.0 ∙ sym (ap (λ b. b.table) c.self.view_is),
      (let a = r.at.1 in omega (arith, a, own.0, ap (λ (t : Terms). t.rows) own.2, rows)),
      rw (r.at.0, c.claim_word.ensures, r.entry)
          (tries c.self.inside.table.shared.key c.self.inside.table.shared.table_id.slots c.args.seat.now.id me
          (step c.self.inside.table.shared.table_id.slots (length me.0.seen) 0 c.claim_word.result none)
          (entry_of c.args.claim.row_no c.args.ranking.now c.args.claim.reply)
          (r.seat.2 ∙ terms) r.seat.3 (let a = r.at.1 in omega (arith, a, r.at.0, rows))
          (subst (λ (t : Terms). IsWithin t.donors t.rows c.args.claim) terms r.claim) r.first
          (r.free ∙ ap (λ (t : Terms). first_free t.limit me.0.seen c.args.ranking.now) terms)),
    )
