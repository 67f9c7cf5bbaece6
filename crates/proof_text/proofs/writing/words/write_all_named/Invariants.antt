use Rattle.std.proofs.Common.{◌≡◌, ◌∷◌, ◌++◌, ℕ, take}
use Rattle.std.specs.List.{AllByRecursion, flat_map}
use Rattle.bound_cert.specs.Paths.{named}
use Rattle.proof_grammar.specs.Limits.{IsLong}
use Rattle.proof_text.proofs.writing.words.write_all_named.Given as goal

abbrev pub invariant-loop-number : goal.invariant-loop-number
invariant-loop-number l = (l.text.items ≡ l.fn.text.items ++ flat_map (λ (n : ℕ). 32 ∷ named n) (take l.number-index l.numbers))
    × AllByRecursion IsLong (take l.number-index l.numbers)
