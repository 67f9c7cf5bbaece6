use Rattle.std.proofs.Common.{◌≡◌, ◌<◌, ◌∙◌, ℕ, IfOk, length, subst, sym}
use Rattle.std.proofs.lemmas.Result.{IfOk-from_err}
use Rattle.record_workers.specs.Workers.{AnswersInClasses, last_class}
use Rattle.record_workers.proofs.gathered.run_all.Goals as goal

pub found_by-requires-clause-shared : goal.found_by-requires-clause-shared
found_by-requires-clause-shared g c = c.requires.shared

pub found_by-requires-clause-ran : goal.found_by-requires-clause-ran
found_by-requires-clause-ran g c = c.run_each-ran.ensures.ran

pub found_by-requires-clause-seats : goal.found_by-requires-clause-seats
found_by-requires-clause-seats g c =
    subst (λ (n : ℕ). IfOk c.run_each-ran.result (λ ran. length ran.items ≡ n)) c.requires.seats c.run_each-ran.ensures.as_many

pub found_by-requires-clause-passes : goal.found_by-requires-clause-passes
found_by-requires-clause-passes g c = sym c.requires.passes ∙ c.requires.seats

pub found_by-requires-clause-some : goal.found_by-requires-clause-some
found_by-requires-clause-some g c = subst (λ (n : ℕ). 0 < n) c.requires.seats c.requires.some

pub returns-clause-pieces : goal.returns-clause-pieces
returns-clause-pieces g c = c.in_ok-pieces.ensures.pieces

pub returns-clause-history : goal.returns-clause-history
returns-clause-history g c = c.in_ok-pieces.ensures.history

pub returns-clause-classes : goal.returns-clause-classes
returns-clause-classes g c =
    subst (λ (n : ℕ). AnswersInClasses c.args.shared.books.terms.limit (last_class c.args.shared) (n ≡ 1) c.in_ok-pieces.pieces.items
    c.in_ok-pieces.history.items) (sym c.requires.seats) c.in_ok-pieces.ensures.classes

pub returns-in_err-pieces-clause-rest : goal.returns-in_err-pieces-clause-rest
returns-in_err-pieces-clause-rest g c = IfOk-from_err _ _ c.from_residual.ensures.0

pub returns-in_err-pieces-clause-pieces : goal.returns-in_err-pieces-clause-pieces
returns-in_err-pieces-clause-pieces g c = IfOk-from_err _ _ c.from_residual.ensures.0

pub returns-in_err-pieces-clause-history : goal.returns-in_err-pieces-clause-history
returns-in_err-pieces-clause-history g c = IfOk-from_err _ _ c.from_residual.ensures.0

pub returns-in_err-pieces-clause-classes : goal.returns-in_err-pieces-clause-classes
returns-in_err-pieces-clause-classes g c = IfOk-from_err _ _ c.from_residual.ensures.0
