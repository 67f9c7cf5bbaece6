use Rattle.std.proofs.Common.{◌≡◌, ◌++◌, drop}
use Rattle.linear_elim.specs.Steps.{flat_from}
use Rattle.linear_elim.proofs.elimination.own_flat_lines.Given as goal

abbrev pub invariant-loop-i : goal.invariant-loop-i
invariant-loop-i l = l.flat ++ flat_from l.given.column.field l.i (drop l.i l.given.lines.now) ≡ flat_from l.given.column.field 0 l.given.lines.now
