use Rattle.std.proofs.Common.{◌≢◌, ℕ, ◌<◌, get_or}
use Rattle.edit_model.specs.declared.name.Name.{Name}
use Rattle.edit_model.proofs.check.kind.are_distinct.Given as goal

abbrev pub invariant-loop-i : goal.invariant-loop-i
invariant-loop-i l = (j k : ℕ) (d : Name) → j < k → k < l.i → get_or l.names j d ≢ get_or l.names k d
