use Rattle.std.proofs.Common.{◌≡◌, length, take}
use Rattle.std.specs.List.{flat_map}
use Rattle.proof_grammar.specs.ProofLines.{verdict_lines}
use Rattle.cert_check.proofs.line_counts.verdicts_line_count.Given as goal

abbrev pub invariant-loop-verdict : goal.invariant-loop-verdict
invariant-loop-verdict l = l.count ≡ length (flat_map verdict_lines (take l.verdict-index l.verdicts))
