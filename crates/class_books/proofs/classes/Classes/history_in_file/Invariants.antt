use Rattle.std.proofs.Common.{◌≡◌, ◌++◌, drop, map, take}
use Rattle.class_books.specs.inner.Numbers.{won_with}
use Rattle.class_books.proofs.classes.Classes.history_in_file.Given as goal

abbrev pub invariant-loop-won : goal.invariant-loop-won
invariant-loop-won l = l.won-items ≡ map (won_with l.self.class_of l.class) (take l.won-index l.initial.won-items) ++ drop l.won-index l.initial.won-items
