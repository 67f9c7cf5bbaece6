-- How many lines the parts of a proof take.
use Rattle.std.specs.Prelude.{◌+◌, ◌<◌, ◌^◌, List, length}
use Rattle.std.specs.List.{flat_map}
use Rattle.bound_cert.specs.declared.cert.Leaf.{Leaf}
use Rattle.proof_grammar.specs.ProofLines.{leaf_lines, proof_lines}
use Rattle.proof_grammar.specs.declared.proof.Proof.{Proof}

-- 64 bits count the lines of the leaves, and one more
abbrev pub AreCounted : List Leaf → Type 0
AreCounted leaves = 1 + length (flat_map leaf_lines leaves) < 2 ^ 64

-- 64 bits count the lines of the proof
abbrev pub IsCounted : Proof → Type 0
IsCounted p = length (proof_lines p) < 2 ^ 64
