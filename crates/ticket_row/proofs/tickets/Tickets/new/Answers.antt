use Rattle.std.proofs.Common.{◌≡◌, ◌∷◌, ◌++◌, [], List, All, ap, arith, length, rules, subst, sym}
use Rattle.std.proofs.lemmas.List.{length-append}
use Rattle.std.proofs.lemmas.List.Elements.{All-push}
use Rattle.ticket_row.specs.Tickets.{IsFresh, Row, SeatState}
use Rattle.ticket_row.proofs.Moves.{splits_as}
use Rattle.ticket_row.proofs.tickets.Tickets.new.Goals as goal

-- one fresh seat more
fresh_more : (tickets : Row) (old new : List SeatState) (seat : SeatState) → new ≡ old ++ seat ∷ [] → All (IsFresh tickets) old → IsFresh tickets seat
    → All (IsFresh tickets) new
fresh_more tickets old new seat is before here = subst (All (IsFresh tickets)) (sym is) (All-push (IsFresh tickets) old seat before here)

pub split_seat-place-requires : goal.split_seat-place-requires
split_seat-place-requires c =
    let inv = c.loop.invariant in (
      search rules,
      search rules,
      splits_as c.in_ok-table.table.shared.key c.loop.first.id c.loop.first.me.0
          (let more = c.loop-test.true in omega (arith, inv.6, inv.7, more)),
    )

pub loop-preserved : goal.loop-preserved
loop-preserved c =
    let inv = c.loop.invariant in
    let items = c.push_reserved.ensures.items in (
      omega (arith, ap length items, length-append {A = SeatState}),
      fresh_more _ _ _ _ items inv.1 (search rules),
      search rules,
      search rules,
      search rules,
      search rules,
      search rules,
      grind arith,
      search rules,
      search rules,
    )

pub returns-clause-seats : goal.returns-clause-seats
returns-clause-seats c = omega (arith, ap length c.push_reserved-2.ensures.items, length-append {A = SeatState})

pub returns-clause-fresh : goal.returns-clause-fresh
returns-clause-fresh c = fresh_more _ _ _ _ c.push_reserved-2.ensures.items c.loop.invariant.1 (search rules)
