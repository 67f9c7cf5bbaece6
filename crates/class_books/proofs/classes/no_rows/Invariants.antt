use Rattle.std.proofs.Common.{◌≡◌, [], length}
use Rattle.std.specs.List.{All}
use Rattle.class_books.proofs.classes.no_rows.Given as goal

abbrev pub invariant-loop : goal.invariant-loop
invariant-loop l = (length l.rows.items ≡ l.counter) × All (λ r. r.items ≡ []) l.rows.items × (l.rows.cap ≡ l.initial.rows.cap)
