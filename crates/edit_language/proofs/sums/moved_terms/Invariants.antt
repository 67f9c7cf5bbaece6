use Rattle.std.proofs.Common.{◌≡◌, ◌++◌, drop}
use Rattle.edit_language.specs.Meaning.{moved_terms}
use Rattle.edit_language.proofs.sums.moved_terms.Given as goal

abbrev pub invariant-loop-i : goal.invariant-loop-i
invariant-loop-i l = l.terms.items ++ moved_terms l.left l.right l.i (drop l.i l.fields) ≡ moved_terms l.left l.right 0 l.fields
