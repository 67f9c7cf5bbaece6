use Rattle.std.proofs.Common.{◌≡◌, ◌++◌, drop, length, map, take}
use Rattle.std.specs.List.{All}
use Rattle.class_books.specs.ClassPasses.{state_in}
use Rattle.class_books.specs.inner.Hands.{IsOfLast, RanksOwn, first_classes, last_class}
use Rattle.class_books.specs.inner.Numbers.{state_with}
use Rattle.class_books.proofs.shared.gather.Given as goal

abbrev pub invariant-loop-other : goal.invariant-loop-other
invariant-loop-other l = record {
  others : l.other-items ≡ map (first_classes (last_class l.fn.last)) (take l.other-index l.initial.other-items) ++ drop l.other-index l.initial.other-items;
  gathered : map (state_with l.fn.last.classes.terms.class_of (last_class l.fn.last)) l.room.items ≡ map (state_in (last_class l.fn.last))
      (take l.other-index l.initial.other-items);
  of_last : All (IsOfLast l.fn.last.classes) l.room.items;
  ranks : All RanksOwn l.room.items;
  filled : length l.room.items ≡ l.other-index;
  room : l.room.cap ≡ l.initial.room.cap;
}
