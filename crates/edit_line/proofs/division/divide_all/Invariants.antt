use Rattle.std.proofs.Common.{◌≡◌, ◌++◌, drop, int_div, map, take}
use Rattle.edit_line.proofs.division.divide_all.Given as goal

abbrev pub invariant-loop-i : goal.invariant-loop-i
invariant-loop-i l = l.numbers.items ≡ map (λ c. int_div c l.divisor) (take l.i l.initial.numbers.items) ++ drop l.i l.initial.numbers.items
