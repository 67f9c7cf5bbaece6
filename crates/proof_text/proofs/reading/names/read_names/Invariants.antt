use Rattle.std.proofs.Common.{◌≡◌, length}
use Rattle.proof_grammar.specs.inner.WordLists.{all_in}
use Rattle.proof_text.proofs.ReadingLaws.{appended}
use Rattle.proof_text.proofs.reading.names.read_names.Given as goal

abbrev pub decreases-loop-word : goal.decreases-loop-word
decreases-loop-word g l = length l.words

abbrev pub invariant-loop-word : goal.invariant-loop-word
invariant-loop-word g l = appended l.numbers.items (all_in g.N.Named.named l.words) ≡ all_in g.N.Named.named l.fn.words
