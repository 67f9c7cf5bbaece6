use Rattle.std.proofs.Common.{rules}
use Rattle.std.proofs.lemmas.List.Sorted.{IsPartitionPoint-from_clause}
use Rattle.localise_tree.specs.inner.Nodes.{before}
use Rattle.localise_tree.proofs.PlaceLaws.{put-placed}
use Rattle.localise_tree.proofs.ends.before_count.Goals as goal

pub returns-clause-place : goal.returns-clause-place
returns-clause-place c =
    put-placed before c.args.ends.now.items c.partition_point.result c.args.node.now
    (IsPartitionPoint-from_clause (λ end. before end c.args.node.now) _ _ c.partition_point.ensures.partitioned c.requires (λ a r q k. search rules))
