use Rattle.std.proofs.Common.{◌≡◌, length, take}
use Rattle.std.specs.List.{flat_map}
use Rattle.proof_grammar.specs.ProofLines.{verdict_lines}
use Rattle.cert_check.proofs.VerdictsLoop.{IsTold}
use Rattle.cert_check.proofs.dropped.verdicts_fault.Given as goal

abbrev pub invariant-loop-place : goal.invariant-loop-place
invariant-loop-place l =
    IsTold l.survey l.verdicts l.place l.offset l.left.items × (l.offset ≡ length (flat_map verdict_lines (take l.place l.verdicts)))
    × (l.lines.items ≡ l.initial.lines.items) × (length l.left.items ≡ length l.verdicts)
