use Rattle.std.proofs.Common.{◌≡◌, ◌≤◌, ◌+◌, drop}
use Rattle.linear_elim.specs.Steps.{is_opposite, pair_result}
use Rattle.linear_elim.specs.inner.Taken.{taken_in}
use Rattle.linear_elim.specs.inner.Uppers.{collect_at, count_at}
use Rattle.linear_elim.proofs.elimination.take_opposites.Given as goal

abbrev pub invariant-loop-place : goal.invariant-loop-place
invariant-loop-place g l =
    (taken_in l.work.kept (collect_at (pair_result l.given.column.field l.s.place l.s.derived.now) l.given.lines.now (drop l.place-index l.uppers))
    ≡ taken_in l.initial.work.kept (collect_at (pair_result l.given.column.field l.s.place l.s.derived.now) l.given.lines.now l.uppers))
    × (l.steps + count_at (is_opposite l.given.column.field l.s.derived.now.line) l.given.lines.now (drop l.place-index l.uppers)
    ≡ l.initial.steps + count_at (is_opposite l.given.column.field l.s.derived.now.line) l.given.lines.now l.uppers)
    × (l.work.line.shape ≡ l.initial.work.line.shape)
    × (l.initial.steps ≤ l.steps)
