use Rattle.std.proofs.Common.{rules, ◌≡◌, ◌∷◌, ap, ◌∙◌, sym, subst}
use Rattle.std.specs.List.{All}
use Rattle.std.proofs.lemmas.List.Elements.{All-head, All-tail}
use Rattle.std.specs.Slots.{slots_items}
use Rattle.donor_book.specs.declared.rule.Terms.{Terms}
use Rattle.donor_book.specs.Passes.{IsSound, IsWhole, PassState}
use Rattle.donor_book.proofs.Moves.{joins_as}
use Rattle.donor_book.proofs.Taking.{HasTaken, takes_first, takes_next, closes}
use Rattle.donor_book.proofs.Collecting.{collected}
use Rattle.donor_book.proofs.shared.SharedBook.close.Goals as goal

pub loop-pass-init : goal.loop-pass-init
loop-pass-init c =
    let here : c.args.passes.items ≡ c.in-Some.first ∷ c.next.new.self.rest.items = sym c.into_iter-rest.ensures.rest ∙ c.in-Some.ensures.items in
    let next : c.into_iter-pass-iterator.result.rest.items ≡ c.next.new.self.rest.items = ap (λ it. it.rest.items)
    c.into_iter-pass-iterator.ensures.into_iter_gives in
    let row : All (λ (p : PassState). p.book ≡ c.args.self) (c.in-Some.first ∷ c.next.new.self.rest.items) =
    subst (All (λ (p : PassState). p.book ≡ c.args.self)) here c.requires.book in (
      subst (All (λ (p : PassState). p.book ≡ c.args.self)) (sym next) (All-tail (λ (p : PassState). p.book ≡ c.args.self) c.in-Some.first
          c.next.new.self.rest.items row),
      c.into_seat-taker.ensures.table ∙ ap (λ n. n.table) (All-head (λ (p : PassState). p.book ≡ c.args.self) c.in-Some.first c.next.new.self.rest.items row),
      ap (λ m. m.1) c.into_seat-taker.ensures.view,
      rw (here, next, ap (λ m. m.0) c.into_seat-taker.ensures.view) (takes_first c.in-Some.first c.next.new.self.rest.items),
    )

pub join_seat-requires : goal.join_seat-requires
join_seat-requires c =
    let i = c.loop-pass.invariant in
    let name : c.self.inside.table.shared.table_id ≡ c.args.self.table = ap (λ t. t.table) c.self.view_is in
    let row = subst (All (λ (p : PassState). p.book ≡ c.args.self)) c.in-Some-pass.ensures.steps.0 i.0 in (
      i.1 ∙ sym name,
      c.into_seat.ensures.table ∙ ap (λ n. n.table) (All-head (λ (p : PassState). p.book ≡ c.args.self) c.in-Some-pass.pass
          c.next-in-loop-pass.new.self.rest.items row) ∙ sym name,
      ap (λ m. m.1) c.into_seat.ensures.view,
      search rules,
      joins_as c.self.inside.table.shared.key c.loop-pass.taker.id c.loop-pass.taker.me.0 c.into_seat.result.id c.into_seat.result.me.0 i.3.some_pass,
    )

pub loop-pass-preserved : goal.loop-pass-preserved
loop-pass-preserved c =
    let i = c.loop-pass.invariant in
    let steps = c.in-Some-pass.ensures.steps.0 in
    let row = subst (All (λ (p : PassState). p.book ≡ c.args.self)) steps i.0 in
    let had : HasTaken c.args.passes.items (c.in-Some-pass.pass ∷ c.next-in-loop-pass.new.self.rest.items) c.loop-pass.taker.me.0 =
    subst (λ l. HasTaken c.args.passes.items l c.loop-pass.taker.me.0) steps i.3 in (
      All-tail (λ (p : PassState). p.book ≡ c.args.self) c.in-Some-pass.pass c.next-in-loop-pass.new.self.rest.items row,
      c.join_seat.ensures.0 ∙ i.1,
      ap (λ m. m.1) c.join_seat.ensures.2 ∙ i.2,
      rw (ap (λ m. m.0) c.join_seat.ensures.2, ap (λ m. m.0) c.into_seat.ensures.view) (takes_next c.args.passes.items c.in-Some-pass.pass
          c.next-in-loop-pass.new.self.rest.items c.loop-pass.taker.me.0 had),
    )

module _ (c : goal.After-free) where
  -- what is read is the whole history
  all_is : IsWhole c.args.self.terms.limit c.args.passes.items c.read_history-history.result.items
      × IsSound c.args.self.terms c.read_history-history.result.items
  all_is =
      let own = c.self.invariant in
      let i = c.loop-pass.invariant in
      let last = c.close_with-closed.ensures.values.2 in
      let rule = last.1.0 in
      let terms = ap (λ b. b.terms) c.self.view_is in
      let done = sym c.loop-pass.pass-iterator.rest.ok.0 ∙ c.in-None.ensures.steps.0 in
      subst (λ (t : Terms). IsWhole t.limit c.args.passes.items c.read_history-history.result.items × IsSound t c.read_history-history.result.items) terms
      (closes c.self.inside.terms c.self.inside.table.shared.key rule.0 last.0.views (slots_items c.close_with-closed.result.words) c.loop-pass.taker.id
      c.loop-pass.taker.me.0 c.args.passes.items c.loop-pass.pass-iterator.rest.items c.read_history-history.result.items
      own.2 (sym last.2 ∙ rule.1) rule.2 last.1.1 i.3 done (c.requires.all ∙ sym (ap (λ (t : Terms). t.passes) terms)) c.read_history-history.ensures)

pub returns-clause-whole : goal.returns-clause-whole
returns-clause-whole c = (all_is c).0

pub returns-clause-sound : goal.returns-clause-sound
returns-clause-sound c = (all_is c).1

pub returns-clause-legal : goal.returns-clause-legal
returns-clause-legal c = collected c.args.self.terms.limit c.args.passes.items c.read_history-history.result.items (all_is c).0 (all_is c).1.once
