use Rattle.std.proofs.Common.{◌≡◌, length}
use Rattle.std.specs.Arc.{arc_value}
use Rattle.std.specs.List.{All}
use Rattle.class_books.specs.inner.Hands.{AreOfTerms, fresh_pass}
use Rattle.class_books.proofs.shared.SharedClasses.share.Given as goal

abbrev pub invariant-loop-class : goal.invariant-loop-class
invariant-loop-class l = record {
  as_many : length l.books.items ≡ l.class;
  terms : AreOfTerms (arc_value l.tables) l.books.items;
  dealt : All (λ pass. pass ≡ fresh_pass (arc_value l.tables) l.books.items) l.all.items;
  passes : length l.all.items ≡ l.passes;
  room : l.books.cap ≡ l.initial.books.cap;
}
