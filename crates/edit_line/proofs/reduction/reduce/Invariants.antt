use Rattle.std.proofs.Common.{◌≡◌}
use Rattle.edit_line.specs.Reductions.{reduce_derived}
use Rattle.edit_line.proofs.reduction.reduce.Given as goal

abbrev pub invariant-loop-line : goal.invariant-loop-line
invariant-loop-line l = l.kept ≡ reduce_derived l.yielded
