use Rattle.std.proofs.Common.{length, ◌-◌}
use Rattle.edit_paths.specs.Paths.{field_count}
use Rattle.path_walk.specs.Problems.{case_in}
use Rattle.localise_tree.proofs.certificates.+push_leaves.Given as goal

abbrev pub decreases-push_leaves : goal.decreases-push_leaves
decreases-push_leaves g l = field_count (case_in l.tree.now.problem.now) - length l.walk.now.letters.items
