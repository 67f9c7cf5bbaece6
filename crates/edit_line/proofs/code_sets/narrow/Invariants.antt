use Rattle.std.proofs.Common.{◌≡◌, ◌++◌, drop, length, take}
use Rattle.edit_line.specs.Combinations.{in_both}
use Rattle.edit_line.proofs.code_sets.narrow.Given as goal

abbrev pub invariant-loop-i : goal.invariant-loop-i
invariant-loop-i l = (take l.i l.sets.items ++ in_both (drop l.i l.sets.items) (drop l.i l.others) ≡ in_both l.initial.sets.items l.others)
    × (length l.sets.items ≡ length l.others)
