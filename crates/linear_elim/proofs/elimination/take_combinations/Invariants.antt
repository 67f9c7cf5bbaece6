use Rattle.std.proofs.Common.{◌≡◌, ◌≤◌, ◌+◌, drop}
use Rattle.edit_line.specs.Domains.{domains}
use Rattle.linear_elim.specs.Steps.{collect, row_result, rows_count}
use Rattle.linear_elim.specs.inner.Taken.{taken_in}
use Rattle.linear_elim.proofs.elimination.take_combinations.Given as goal

abbrev pub invariant-loop-place : goal.invariant-loop-place
invariant-loop-place g l =
    (taken_in l.work.kept (collect (row_result l.given.column.field l.given.lines.now) l.place (drop l.place l.given.lines.now))
    ≡ taken_in l.initial.work.kept (collect (row_result l.given.column.field l.given.lines.now) 0 l.given.lines.now))
    × (l.steps + rows_count l.given.column.field l.given.lines.now (drop l.place l.given.lines.now)
    ≡ l.initial.steps + rows_count l.given.column.field l.given.lines.now l.given.lines.now)
    × (l.work.line.shape ≡ domains l.given.column.shape)
    × (l.initial.steps ≤ l.steps)
