use Rattle.std.proofs.Common.{◌≡◌, ◌≤◌, ◌+◌, drop}
use Rattle.edit_line.specs.Domains.{domains}
use Rattle.linear_elim.specs.Steps.{collect, substituted_count, substituted_result}
use Rattle.linear_elim.specs.inner.Taken.{taken_in}
use Rattle.linear_elim.proofs.substitution.take_each.Given as goal

abbrev pub invariant-loop-place : goal.invariant-loop-place
invariant-loop-place g l =
    (taken_in l.work.kept (collect (substituted_result l.given.column.field l.e.place l.e.derived.now) l.place (drop l.place l.given.lines.now))
    ≡ taken_in l.initial.work.kept (collect (substituted_result l.given.column.field l.e.place l.e.derived.now) 0 l.given.lines.now))
    × (l.steps + substituted_count l.given.column.field l.e.place l.place (drop l.place l.given.lines.now)
    ≡ l.initial.steps + substituted_count l.given.column.field l.e.place 0 l.given.lines.now)
    × (l.work.line.shape ≡ domains l.given.column.shape)
    × (l.initial.steps ≤ l.steps)
