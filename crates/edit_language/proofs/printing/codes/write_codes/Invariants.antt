use Rattle.std.proofs.Common.{◌≡◌, ◌∷◌, ◌++◌, take}
use Rattle.edit_language.specs.Printing.{comma_list}
use Rattle.edit_language.proofs.printing.codes.write_codes.Given as goal

abbrev pub invariant-loop-i : goal.invariant-loop-i
invariant-loop-i l = l.text.items ≡ l.fn.text.items ++ 123 ∷ comma_list (take l.i l.list)
