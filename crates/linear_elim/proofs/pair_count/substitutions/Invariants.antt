use Rattle.std.proofs.Common.{◌≡◌, ◌+◌, ◌≤◌, drop}
use Rattle.linear_elim.specs.Steps.{substituted_count}
use Rattle.linear_elim.proofs.pair_count.substitutions.Given as goal

abbrev pub invariant-loop-place : goal.invariant-loop-place
invariant-loop-place l =
    (l.count + substituted_count l.given.column.field l.equality l.place (drop l.place l.given.lines.now)
    ≡ substituted_count l.given.column.field l.equality 0 l.given.lines.now)
    × (l.count ≤ l.place)
