use Rattle.std.proofs.Common.{◌≡◌, ◌++◌}
use Rattle.bound_cert.specs.SharedTrees.{shared_rows, table_with_rows}
use Rattle.proof_sharing.proofs.rows.share_rows.Given as goal

abbrev pub invariant-loop-row : goal.invariant-loop-row
invariant-loop-row l =
    (l.shared.items ++ shared_rows l.given l.table l.row-iterator.rest.items ≡ shared_rows l.given l.fn.table l.fn.rows.items)
    × (table_with_rows l.table l.row-iterator.rest.items ≡ table_with_rows l.fn.table l.fn.rows.items)
