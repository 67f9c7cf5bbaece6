use Rattle.std.proofs.Common.{◌≡◌, ◌∷◌, take, false}
use Rattle.edit_language.specs.Faults.{has_double}
use Rattle.edit_language.proofs.codes.has_double.Given as goal

abbrev pub invariant-loop-code : goal.invariant-loop-code
invariant-loop-code l = (l.seen ≡ l.list.first ∷ take l.code-index l.list.rest) × (has_double l.seen ≡ false)
