use Rattle.std.proofs.Common.{◌≡◌, length, take}
use Rattle.std.specs.List.{flat_map}
use Rattle.proof_grammar.specs.ProofLines.{row_lines}
use Rattle.cert_check.specs.inner.Checks.{rules_in}
use Rattle.cert_check.proofs.RowsLoop.{GoesOn}
use Rattle.cert_check.proofs.rows_check.rows_fault.Given as goal

abbrev pub invariant-loop-row_no : goal.invariant-loop-row_no
invariant-loop-row_no l =
    GoesOn (rules_in l.checking) l.saids l.records.row_texts l.records.rows l.released.row_texts l.row_no l.next l.offset
    × (l.offset ≡ length (flat_map row_lines (take l.row_no l.saids)))
