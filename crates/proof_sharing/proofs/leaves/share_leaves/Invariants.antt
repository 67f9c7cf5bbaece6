use Rattle.std.proofs.Common.{◌≡◌, ◌++◌}
use Rattle.bound_cert.specs.SharedTrees.{shared_leaves, table_with_leaves}
use Rattle.proof_sharing.proofs.leaves.share_leaves.Given as goal

abbrev pub invariant-loop-leaf : goal.invariant-loop-leaf
invariant-loop-leaf l =
    (l.shared.items ++ shared_leaves l.given l.table l.leaf-iterator.rest.items ≡ shared_leaves l.given l.fn.table l.fn.leaves.items)
    × (table_with_leaves l.table l.leaf-iterator.rest.items ≡ table_with_leaves l.fn.table l.fn.leaves.items)
