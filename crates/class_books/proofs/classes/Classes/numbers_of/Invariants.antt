use Rattle.std.proofs.Common.{◌≡◌, ℕ, length, take}
use Rattle.std.specs.List.{All}
use Rattle.class_books.specs.Classes.{IsOfClass}
use Rattle.class_books.specs.inner.Numbers.{AreNumbersOf}
use Rattle.class_books.proofs.classes.Classes.numbers_of.Given as goal

abbrev pub invariant-loop-place : goal.invariant-loop-place
invariant-loop-place l = record {
  size : length l.numbers ≡ 64;
  are : (class : ℕ) → All (IsOfClass l.self.class_of class) l.rows → AreNumbersOf l.self.class_of class (take l.place l.rows) (take l.place l.numbers);
}
