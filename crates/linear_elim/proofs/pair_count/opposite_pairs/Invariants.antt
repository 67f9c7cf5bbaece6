use Rattle.std.proofs.Common.{◌≡◌, ◌+◌, ◌*◌, ◌≤◌, drop, length}
use Rattle.linear_elim.specs.Steps.{rows_count}
use Rattle.linear_elim.proofs.pair_count.opposite_pairs.Given as goal

abbrev pub invariant-loop-s : goal.invariant-loop-s
invariant-loop-s l =
    (l.pairs + rows_count l.given.column.field l.given.lines.now (drop l.s-index l.given.lines.now)
    ≡ rows_count l.given.column.field l.given.lines.now l.given.lines.now)
    × (l.pairs ≤ l.s-index * length l.given.lines.now)
