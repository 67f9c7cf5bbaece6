use Rattle.std.proofs.Common.{List, [], ◌∷◌, ◌++◌, length, All, arith, refl, sym, ◌∙◌, subst, option_to_list}
use Rattle.std.proofs.lemmas.List.{length_push, get_or_push, get_or_append_left}
use Rattle.std.proofs.lemmas.List.Elements.{All-push, All-weaker}
use Rattle.ticket_row.specs.Tickets.{Row, SeatState, IsFresh}
use Rattle.ticket_row.proofs.Taking.{IsOf}
use Rattle.ticket_row.proofs.tests.draw_by_two.Goals as goal

-- what holds of all seats holds of the last and of those before it
popped : (row : Row) (rest : List SeatState) (seat : SeatState) → All (IsOf row) (rest ++ seat ∷ []) → All (IsOf row) rest × IsOf row seat
popped row rest seat all = (
  (λ k d lt. subst (IsOf row) (get_or_append_left rest (seat ∷ []) d k lt) (all k d (omega (arith, lt, length_push rest seat)))),
  subst (IsOf row) (get_or_push rest seat seat (length rest) refl) (all (length rest) seat (omega (arith, length_push rest seat))),
)

pub close-requires-clause-row : goal.close-requires-clause-row
close-requires-clause-row g c =
    let row = c.in_ok-tickets.tickets.row in
    let seats = c.in-Some-Some in
    let all = All-weaker (IsFresh row) (IsOf row) (λ s fresh. fresh.row) c.in_ok-tickets.seats.items c.in_ok-tickets.ensures.fresh in
    let one = popped row c.pop.new.self.items seats.one
    (subst (λ r. All (IsOf row) (c.pop.new.self.items ++ option_to_list r)) seats.is-0 (subst (All (IsOf row)) c.pop.ensures.items all)) in
    let two = popped row c.pop-2.new.self.items seats.two
    (subst (λ r. All (IsOf row) (c.pop-2.new.self.items ++ option_to_list r)) seats.is-1 (subst (All (IsOf row)) c.pop-2.ensures.items one.0)) in
    let with_one = subst (All (IsOf row)) (sym c.push_reserved.ensures.items)
    (All-push (IsOf row) c.pop-2.new.self.items c.join-left.result.0.0 two.0 (c.join-left.ensures.first ∙ one.1)) in
    subst (All (IsOf row)) (sym c.push_reserved-2.ensures.items)
    (All-push (IsOf row) c.push_reserved.new.self.items c.join-left.result.1.0 with_one (c.join-left.ensures.second ∙ two.1))
