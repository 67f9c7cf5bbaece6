use Rattle.std.proofs.Common.{◌≡◌, length, map, take}
use Rattle.class_books.specs.inner.Numbers.{AreNumbered}
use Rattle.class_books.proofs.classes.Classes.of.Given as goal

abbrev pub invariant-loop-row_no : goal.invariant-loop-row_no
invariant-loop-row_no l = record {
  are : AreNumbered (take l.row_no l.class-items) l.numbers.items (map (λ r. r.items) l.rows.items);
  count : length l.rows.items ≡ l.classes;
  room : l.numbers.cap ≡ l.initial.numbers.cap;
}
