use Rattle.std.proofs.Common.{◌≡◌, ◌++◌, take}
use Rattle.edit_language.specs.Printing.{later_terms_text}
use Rattle.edit_language.proofs.printing.sums.write_later_terms.Given as goal

abbrev pub invariant-loop-term : goal.invariant-loop-term
invariant-loop-term l = l.text.items ≡ l.fn.text.items ++ later_terms_text l.fields (take l.term-index l.terms)
