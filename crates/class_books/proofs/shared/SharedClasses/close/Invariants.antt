use Rattle.std.proofs.Common.{◌≡◌, ◌+◌, ◌<◌, ◌++◌, [], ◌∷◌, ℕ, length, map, reverse, vec_len}
use Rattle.std.specs.List.{All}
use Rattle.class_books.specs.ClassPasses.{state_in}
use Rattle.class_books.specs.inner.Hands.{AreOfTerms, name_of}
use Rattle.class_books.proofs.CloseLaws.{AreHistoriesFrom}
use Rattle.class_books.proofs.shared.SharedClasses.close.Given as goal

abbrev pub invariant-loop-book : goal.invariant-loop-book
invariant-loop-book l = record {
  terms : AreOfTerms l.fn.self.terms l.books.items;
  same : All (λ pass. pass.classes ≡ name_of l.fn.self.terms l.books.items) (l.passes.items ++ l.last ∷ []);
  states : (class : ℕ) → class < length l.books.items → map (state_in class) (l.passes.items ++ l.last ∷ []) ≡ map (state_in class) l.fn.passes.items;
  all : length l.passes.items + 1 ≡ l.fn.self.terms.passes;
  closed : AreHistoriesFrom l.fn.self l.fn.passes.items (length l.books.items) (reverse (map (λ h. h.items) l.histories.items));
  filled : length l.histories.items + length l.books.items ≡ l.fn.self.terms.classes;
  room : l.histories.cap ≡ l.initial.histories.cap;
}

abbrev pub decreases-loop-book : goal.decreases-loop-book
decreases-loop-book l = vec_len l.books
