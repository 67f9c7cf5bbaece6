use Rattle.std.proofs.Common.{◌≡◌, [], length}
use Rattle.std.specs.Arc.{arc_value}
use Rattle.std.specs.List.{All}
use Rattle.class_books.specs.inner.Hands.{fresh_pass}
use Rattle.class_books.proofs.shared.passes_of.Given as goal

abbrev pub invariant-loop : goal.invariant-loop
invariant-loop l = record {
  as_many : length l.all.items ≡ l.counter;
  fresh : All (λ pass. pass ≡ fresh_pass (arc_value l.classes) []) l.all.items;
  room : l.all.cap ≡ l.initial.all.cap;
}
