use Rattle.std.proofs.Common.{◌≡◌, map, take}
use Rattle.proof_grammar.specs.Words.{is_changed}
use Rattle.proof_grammar.proofs.paths.read_letters.Given as goal

abbrev pub invariant-loop-letter : goal.invariant-loop-letter
invariant-loop-letter l = l.letters.items ≡ map is_changed (take l.letter-index l.word)
