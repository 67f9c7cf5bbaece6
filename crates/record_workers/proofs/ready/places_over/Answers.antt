use Rattle.std.proofs.lemmas.Result.{IfOk-from_err}
use Rattle.record_workers.proofs.ready.places_over.Goals as goal

pub returns-clause-ready : goal.returns-clause-ready
returns-clause-ready g c =
    c.in_ok-workers.ensures.ready c.in_ok-tickets.tickets.row c.in_ok-books.books c.in_ok-tickets.ensures.fresh c.in_ok-books.ensures.fresh

pub returns-in_err-tickets-clause-tickets : goal.returns-in_err-tickets-clause-tickets
returns-in_err-tickets-clause-tickets g c = IfOk-from_err _ _ c.from_residual.ensures.0

pub returns-in_err-tickets-clause-seats : goal.returns-in_err-tickets-clause-seats
returns-in_err-tickets-clause-seats g c = IfOk-from_err _ _ c.from_residual.ensures.0

pub returns-in_err-tickets-clause-books : goal.returns-in_err-tickets-clause-books
returns-in_err-tickets-clause-books g c = IfOk-from_err _ _ c.from_residual.ensures.0

pub returns-in_err-tickets-clause-as_many : goal.returns-in_err-tickets-clause-as_many
returns-in_err-tickets-clause-as_many g c = IfOk-from_err _ _ c.from_residual.ensures.0

pub returns-in_err-tickets-clause-ready : goal.returns-in_err-tickets-clause-ready
returns-in_err-tickets-clause-ready g c = IfOk-from_err _ _ c.from_residual.ensures.0

pub returns-in_err-books-clause-tickets : goal.returns-in_err-books-clause-tickets
returns-in_err-books-clause-tickets g c = IfOk-from_err _ _ c.from_residual-in_err-books.ensures.0

pub returns-in_err-books-clause-seats : goal.returns-in_err-books-clause-seats
returns-in_err-books-clause-seats g c = IfOk-from_err _ _ c.from_residual-in_err-books.ensures.0

pub returns-in_err-books-clause-books : goal.returns-in_err-books-clause-books
returns-in_err-books-clause-books g c = IfOk-from_err _ _ c.from_residual-in_err-books.ensures.0

pub returns-in_err-books-clause-as_many : goal.returns-in_err-books-clause-as_many
returns-in_err-books-clause-as_many g c = IfOk-from_err _ _ c.from_residual-in_err-books.ensures.0

pub returns-in_err-books-clause-ready : goal.returns-in_err-books-clause-ready
returns-in_err-books-clause-ready g c = IfOk-from_err _ _ c.from_residual-in_err-books.ensures.0

pub returns-in_err-workers-clause-tickets : goal.returns-in_err-workers-clause-tickets
returns-in_err-workers-clause-tickets g c = IfOk-from_err _ _ c.from_residual-in_err-workers.ensures.0

pub returns-in_err-workers-clause-seats : goal.returns-in_err-workers-clause-seats
returns-in_err-workers-clause-seats g c = IfOk-from_err _ _ c.from_residual-in_err-workers.ensures.0

pub returns-in_err-workers-clause-books : goal.returns-in_err-workers-clause-books
returns-in_err-workers-clause-books g c = IfOk-from_err _ _ c.from_residual-in_err-workers.ensures.0

pub returns-in_err-workers-clause-as_many : goal.returns-in_err-workers-clause-as_many
returns-in_err-workers-clause-as_many g c = IfOk-from_err _ _ c.from_residual-in_err-workers.ensures.0

pub returns-in_err-workers-clause-ready : goal.returns-in_err-workers-clause-ready
returns-in_err-workers-clause-ready g c = IfOk-from_err _ _ c.from_residual-in_err-workers.ensures.0
