use Rattle.std.proofs.Common.{◌≡◌, ◌∷◌, ◌++◌, take, eqb, length}
use Rattle.edit_language.specs.Printing.{codes_of_set, comma_list}
use Rattle.edit_language.proofs.printing.codes.write_set.Given as goal

abbrev pub invariant-loop-i : goal.invariant-loop-i
invariant-loop-i l = (l.text.items ≡ l.fn.text.items ++ 123 ∷ comma_list (codes_of_set l.set 0 (take l.i l.list)))
    × (l.first ≡ eqb (length (codes_of_set l.set 0 (take l.i l.list))) 0)
