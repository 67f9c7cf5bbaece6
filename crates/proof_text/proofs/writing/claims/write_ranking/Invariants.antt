use Rattle.std.proofs.Common.{◌≡◌, ◌∷◌, ◌++◌, ℕ, take}
use Rattle.std.specs.List.{AllByRecursion, flat_map}
use Rattle.bound_cert.specs.Paths.{named}
use Rattle.proof_grammar.specs.Limits.{IsShort}
use Rattle.proof_text.proofs.writing.claims.write_ranking.Given as goal

abbrev pub invariant-loop-donor : goal.invariant-loop-donor
invariant-loop-donor l = (l.text.items ≡ l.fn.text.items ++ flat_map (λ (n : ℕ). 32 ∷ named n) (take l.donor-index l.ranking))
    × AllByRecursion IsShort (take l.donor-index l.ranking)
