use Rattle.std.proofs.Common.{subst, sym}
use Rattle.std.proofs.lemmas.List.Elements.{All-nil, All-weaker}
use Rattle.std.proofs.lemmas.Result.{IfOk-from_err}
use Rattle.shared_edits.specs.Pools.{IsOf, IsReaderOf}
use Rattle.record_workers.specs.Workers.{IsReady}
use Rattle.record_workers.specs.inner.Gatherings.{IsReadyAt}
use Rattle.record_workers.proofs.ready.ready_workers.Goals as goal

pub returns-clause-ready : goal.returns-clause-ready
returns-clause-ready g c =
    let places = c.in_ok-places.places in
    All-weaker (IsReadyAt places.tickets.row places.books) (IsReady record { rest = c.args.rest; tickets = places.tickets; books = places.books })
    (λ w is. record {
      seat = is.seat;
      pass = is.pass;
      reader = subst (IsReaderOf c.args.rest.pool) (sym is.reader) (All-nil (IsOf c.args.rest.pool));
      pieces = is.pieces;
    }) places.workers.items c.in_ok-places.ensures.ready

pub returns-in_err-places-clause-rest : goal.returns-in_err-places-clause-rest
returns-in_err-places-clause-rest g c = IfOk-from_err _ _ c.from_residual.ensures.0

pub returns-in_err-places-clause-limit : goal.returns-in_err-places-clause-limit
returns-in_err-places-clause-limit g c = IfOk-from_err _ _ c.from_residual.ensures.0

pub returns-in_err-places-clause-shared : goal.returns-in_err-places-clause-shared
returns-in_err-places-clause-shared g c = IfOk-from_err _ _ c.from_residual.ensures.0

pub returns-in_err-places-clause-ready : goal.returns-in_err-places-clause-ready
returns-in_err-places-clause-ready g c = IfOk-from_err _ _ c.from_residual.ensures.0

pub returns-in_err-places-clause-workers : goal.returns-in_err-places-clause-workers
returns-in_err-places-clause-workers g c = IfOk-from_err _ _ c.from_residual.ensures.0

pub returns-in_err-places-clause-seats : goal.returns-in_err-places-clause-seats
returns-in_err-places-clause-seats g c = IfOk-from_err _ _ c.from_residual.ensures.0

pub returns-in_err-places-clause-passes : goal.returns-in_err-places-clause-passes
returns-in_err-places-clause-passes g c = IfOk-from_err _ _ c.from_residual.ensures.0
