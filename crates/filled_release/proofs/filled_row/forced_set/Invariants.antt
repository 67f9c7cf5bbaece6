use Rattle.std.proofs.Common.{◌≡◌, ℕ, take}
use Rattle.edit_model.specs.FieldSets.{has_number}
use Rattle.filled_release.specs.FilledFiles.{is_forced}
use Rattle.filled_release.proofs.filled_row.forced_set.Given as goal

abbrev pub invariant-loop-one : goal.invariant-loop-one
invariant-loop-one l = (f : ℕ) → has_number l.set f ≡ is_forced (take l.one-index l.forced) f
