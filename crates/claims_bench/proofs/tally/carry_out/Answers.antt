use Rattle.std.proofs.Common.{◌≡◌, ℕ, ◌<◌, length, arith, ap, ◌∙◌, subst}
use Rattle.std.proofs.lemmas.List.{length-map}
use Rattle.donor_book.specs.Entries.{IsLegalHistory}
use Rattle.donor_book.specs.Passes.{IsSound}
use Rattle.donor_book.specs.declared.rule.Terms.{Terms}
use Rattle.claims_bench.specs.inner.Tallies.{terms_of}
use Rattle.claims_bench.specs.declared.tally.Plan.{Plan}
use Rattle.claims_bench.specs.declared.worker.Worker.{Worker}
use Rattle.claims_bench.proofs.WorkerLaws.{books_are, ready, rows_are, some_ended}
use Rattle.claims_bench.proofs.tally.carry_out.Goals as goal

-- the terms of a plan with so many donors
abbrev terms_with : Plan → ℕ → Terms
terms_with plan donors = record { limit = 1; donors = donors; rows = plan.count; passes = plan.threads }

pub run_all-requires-clause-ready : goal.run_all-requires-clause-ready
run_all-requires-clause-ready g c κs within =
    ready c.in_ok-tickets.tickets.row c.in_ok-book.book c.in_ok-workers_of.field-0.items c.in_ok-tickets.seats.items c.in_ok-book.passes.items
    c.in_ok-workers_of.ensures.seats c.in_ok-workers_of.ensures.passes
    c.in_ok-tickets.ensures.fresh c.in_ok-book.ensures.fresh

pub close-requires-clause-row : goal.close-requires-clause-row
close-requires-clause-row g c = rows_are c.in_ok-tickets.tickets.row c.in_ok-book.book c.in_ok-ran.ran.items c.in_ok-ran.ensures.ran c.in_ok-seats.seats.items
    c.in_ok-seats.ensures.seats

pub close-requires-2-clause-book : goal.close-requires-2-clause-book
close-requires-2-clause-book g c = books_are c.in_ok-tickets.tickets.row c.in_ok-book.book c.in_ok-ran.ran.items c.in_ok-ran.ensures.ran
    c.in_ok-seats.passes.items c.in_ok-seats.ensures.passes

pub returns : goal.returns
returns g c =
    let all = length-map c.in_ok-workers_of.field-0.items (λ (w : Worker). w.seat) in
    let some : 0 < length c.in_ok-ran.ran.items = omega (
      arith,
      all,
      ap length c.in_ok-workers_of.ensures.seats,
      c.in_ok-ran.ensures.all,
      c.in_ok-tickets.ensures.seats,
      c.requires.1,
    ) in
    let ended = some_ended c.in_ok-tickets.tickets.row c.in_ok-book.book c.in_ok-ran.ran.items c.in_ok-ran.ensures.ran c.in_ok-seats.seats.items
    c.in_ok-seats.ensures.seats some in
    let terms : c.in_ok-book.book.terms ≡ terms_of c.args.plan = c.in_ok-book.ensures.terms ∙ ap (terms_with c.args.plan) c.donors_for.ensures in
    let collected = c.close-2.ensures.legal in record {
      drawn = c.close.ensures.ended ended ∙ c.in_ok-tickets.ensures.row.0;
      sound = subst (λ (t : Terms). IsSound t c.close-2.result.items) terms c.close-2.ensures.sound;
      legal = (collected.0, collected.1.wins, subst (λ (t : Terms). IsLegalHistory t.limit collected.0) terms collected.1.legal);
    }
