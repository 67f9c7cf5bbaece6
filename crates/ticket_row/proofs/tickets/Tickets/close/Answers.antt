use Rattle.std.proofs.Common.{rules, ◌≡◌, ◌∷◌, true, ℕ, length, min, All, Any, sym, ap, ◌∙◌, subst}
use lib.ListN.{get_elem?}
use Rattle.std.proofs.lemmas.List.Elements.{All-head, All-tail}
use Rattle.ticket_row.specs.Tickets.{SeatState, DrawnBelow}
use Rattle.ticket_row.proofs.Moves.{joins_as}
use Rattle.ticket_row.proofs.Taking.{IsOf, HasTaken, takes_first, takes_next, closes}
use Rattle.ticket_row.proofs.tickets.Tickets.close.Goals as goal

pub loop-seat-init : goal.loop-seat-init
loop-seat-init c =
    let here : c.args.seats.items ≡ c.in-Some.first ∷ c.next.new.self.rest.items = sym c.into_iter-rest.ensures.rest ∙ c.in-Some.ensures.items in
    let next : c.into_iter-seat-iterator.result.rest.items ≡ c.next.new.self.rest.items =
    ap (λ it. it.rest.items) c.into_iter-seat-iterator.ensures.into_iter_gives in
    let row : All (IsOf c.args.self.row) (c.in-Some.first ∷ c.next.new.self.rest.items) = subst (All (IsOf c.args.self.row)) here c.requires.row in (
      subst (All (IsOf c.args.self.row)) (sym next) (All-tail (IsOf c.args.self.row) c.in-Some.first c.next.new.self.rest.items row),
      c.into_place-taker.ensures.row ∙ ap (λ r. r.name) (All-head (IsOf c.args.self.row) c.in-Some.first c.next.new.self.rest.items row),
      ap (λ m. m.1) c.into_place-taker.ensures.hand,
      rw (here, next, ap (λ m. m.0) c.into_place-taker.ensures.hand) (takes_first c.in-Some.first c.next.new.self.rest.items),
    )

pub join_seat-requires : goal.join_seat-requires
join_seat-requires c =
    let i = c.loop-seat.invariant in
    let name : c.self.inside.table.shared.table_id ≡ c.args.self.row.name = ap (λ t. t.row.name) c.self.view_is in
    let row = subst (All (IsOf c.args.self.row)) c.in-Some-seat.ensures.steps.0 i.0 in (
      i.1 ∙ sym name,
      c.into_place.ensures.row ∙ ap (λ r. r.name) (All-head (IsOf c.args.self.row) c.in-Some-seat.seat c.next-in-loop-seat.new.self.rest.items row) ∙ sym name,
      ap (λ m. m.1) c.into_place.ensures.hand,
      search rules,
      joins_as c.self.inside.table.shared.key c.loop-seat.taker.id c.loop-seat.taker.me.0 c.into_place.result.id c.into_place.result.me.0 i.3.some_seat,
    )

pub loop-seat-preserved : goal.loop-seat-preserved
loop-seat-preserved c =
    let i = c.loop-seat.invariant in
    let steps = c.in-Some-seat.ensures.steps.0 in
    let row = subst (All (IsOf c.args.self.row)) steps i.0 in
    let had : HasTaken c.args.seats.items (c.in-Some-seat.seat ∷ c.next-in-loop-seat.new.self.rest.items) c.loop-seat.taker.me.0 =
    subst (λ l. HasTaken c.args.seats.items l c.loop-seat.taker.me.0) steps i.3 in (
      All-tail (IsOf c.args.self.row) c.in-Some-seat.seat c.next-in-loop-seat.new.self.rest.items row,
      c.join_seat.ensures.0 ∙ i.1,
      ap (λ m. m.1) c.join_seat.ensures.2 ∙ i.2,
      rw (ap (λ m. m.0) c.join_seat.ensures.2, ap (λ m. m.0) c.into_place.ensures.hand)
          (takes_next c.args.seats.items c.in-Some-seat.seat c.next-in-loop-seat.new.self.rest.items c.loop-seat.taker.me.0 had),
    )

module _ (c : goal.After-min) where
  -- the number of tickets drawn, over all draws
  abbrev drawn : ℕ → ℕ
  drawn count = min c.word-drawn.result count

  all_is : DrawnBelow (drawn c.self.inside.count) c.args.seats.items
      × (Any (λ (s : SeatState). s.ended ≡ true) c.args.seats.items → drawn c.self.inside.count ≡ c.self.inside.count)
  all_is =
      let own = c.self.invariant in
      let i = c.loop-seat.invariant in
      let last = c.close_with-closed.ensures.values.2 in
      let state = last.0 in
      let rule = last.1.0 in
      let whole : length c.args.seats.items ≡ c.self.inside.table.shared.key.seats = c.requires.all ∙ sym (ap (λ t. t.seats) c.self.view_is) in
      let ok = c.loop-seat.seat-iterator.rest.ok in
      let done : length c.loop-seat.seat-iterator.rest.items ≡ 0 = sym ok.0 ∙ c.in-None.ensures.steps.0 in
      subst (λ n. DrawnBelow (drawn n) c.args.seats.items × (Any (λ (s : SeatState). s.ended ≡ true) c.args.seats.items → drawn n ≡ n)) own.2
      (closes c.self.inside.table.shared.key.count c.self.inside.table.shared.key.seats rule.0 state.words state.views c.loop-seat.taker.id c.word-drawn.result
      c.args.seats.items c.loop-seat.seat-iterator.rest.items c.loop-seat.taker.me.0 rule.1 rule.2 last.1.1
      (ap (λ ws. get_elem? ws 0) last.2 ∙ c.word-drawn.ensures) i.3 done whole)

pub returns-clause-drawn : goal.returns-clause-drawn
returns-clause-drawn c = subst (λ n. DrawnBelow n c.args.seats.items) (sym c.min.ensures) (all_is c).0

pub returns-clause-ended : goal.returns-clause-ended
returns-clause-ended c any = c.min.ensures ∙ (all_is c).1 any ∙ ap (λ t. t.row.count) c.self.view_is
