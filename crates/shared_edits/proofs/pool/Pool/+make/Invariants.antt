use Rattle.std.proofs.Common.{length}
use Rattle.linear_elim.specs.Systems.{chosen_fields}
use Rattle.shared_edits.proofs.pool.Pool.+make.Given as goal

abbrev pub decreases-make : goal.decreases-make
decreases-make g l = length (chosen_fields l.self.now.edits.shape l.fields)
