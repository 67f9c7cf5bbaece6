use Rattle.std.proofs.Common.{◌≡◌, length, take}
use Rattle.std.specs.List.{flat_map}
use Rattle.proof_grammar.specs.ProofLines.{leaf_lines}
use Rattle.cert_check.proofs.tree_check.lines_before.Given as goal

abbrev pub invariant-loop-place : goal.invariant-loop-place
invariant-loop-place l = l.lines ≡ length (flat_map leaf_lines (take l.place l.leaves))
