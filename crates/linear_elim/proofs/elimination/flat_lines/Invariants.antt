use Rattle.std.proofs.Common.{◌≡◌, drop, fold}
use Rattle.edit_line.specs.Reductions.{reduce_derived, with_derived}
use Rattle.linear_elim.specs.Steps.{flat_from}
use Rattle.linear_elim.proofs.elimination.flat_lines.Given as goal

abbrev pub invariant-loop-i : goal.invariant-loop-i
invariant-loop-i l =
    fold with_derived l.flat (flat_from l.given.column.field l.i (drop l.i l.given.lines.now))
    ≡ reduce_derived (flat_from l.given.column.field 0 l.given.lines.now)
