use Rattle.std.proofs.Common.{◌≡◌, length, take}
use Rattle.std.specs.List.{flat_map}
use Rattle.proof_grammar.specs.ProofLines.{leaf_lines}
use Rattle.cert_check.proofs.line_counts.leaves_line_count.Given as goal

abbrev pub invariant-loop-leaf : goal.invariant-loop-leaf
invariant-loop-leaf l = l.count ≡ length (flat_map leaf_lines (take l.leaf-index l.leaves))
