use Rattle.std.proofs.Common.{◌≡◌, ◌++◌, [], ◌∷◌, All, Option, IfSome, ap, arith, length, length-append, option_to_list, subst, sym, ◌∙◌}
use Rattle.std.proofs.lemmas.List.Elements.{All-pop, All-push}
use Rattle.ticket_row.specs.Tickets.{IsFresh, SeatState}
use Rattle.class_books.specs.ClassPasses.{ClassPassState, IsFreshPass}
use Rattle.record_workers.specs.declared.worker.Worker.{Worker}
use Rattle.record_workers.specs.inner.Gatherings.{IsReadyAt}
use Rattle.record_workers.proofs.ready.workers_at.Goals as goal

pub loop-number-preserved : goal.loop-number-preserved
loop-number-preserved c =
    let loop = c.loop-number in
    let inv = loop.invariant in
    let some = c.in-Some-Some in
    let seats = c.pop.new.self.items in
    let passes = c.pop-in-loop-number.new.self.items in
    let seats_were : loop.seats.items ≡ seats ++ some.seat ∷ [] = c.pop.ensures.items ∙ ap (λ (o : Option SeatState). seats ++ option_to_list o) some.is-0 in
    let passes_were : loop.passes.items ≡ passes ++ some.pass ∷ [] = c.pop-in-loop-number.ensures.items
    ∙ ap (λ (o : Option ClassPassState). passes ++ option_to_list o) some.is-1 in
    let items = c.in_ok-push.ensures.items in
    let worker : Worker = c.in_ok-worker_at.field-0 in
    record {
      seats = omega (arith, inv.seats, ap length seats_were, length-append seats (some.seat ∷ []));
      passes = omega (arith, inv.passes, ap length passes_were, length-append passes (some.pass ∷ []));
      workers = omega (arith, inv.workers, ap length items, length-append loop.workers.items (worker ∷ []));
      fresh = λ row f. (All-pop (IsFresh row) loop.seats.items seats c.pop.result c.pop.ensures.items (inv.fresh row f)).0;
      unspent = λ books u.
          (All-pop (IsFreshPass books) loop.passes.items passes c.pop-in-loop-number.result c.pop-in-loop-number.ensures.items (inv.unspent books u)).0;
      ready = λ row books f u. subst (All (IsReadyAt row books)) (sym items)
          (All-push (IsReadyAt row books) loop.workers.items worker (inv.ready row books f u) (c.in_ok-worker_at.ensures row books
          (subst (λ (o : Option SeatState). IfSome o (IsFresh row)) some.is-0
          (All-pop (IsFresh row) loop.seats.items seats c.pop.result c.pop.ensures.items (inv.fresh row f)).1)
          (subst (λ (o : Option ClassPassState). IfSome o (IsFreshPass books)) some.is-1
          (All-pop (IsFreshPass books) loop.passes.items passes c.pop-in-loop-number.result c.pop-in-loop-number.ensures.items (inv.unspent books u)).1)));
    }
