use Rattle.std.proofs.Common.{◌≡◌, ◌<◌}
use Rattle.elimination_bench.specs.inner.Differences.{differences, draw_at}
use Rattle.elimination_bench.proofs.differences.Differences.edits.Given as goal

abbrev pub invariant-loop-place : goal.invariant-loop-place
invariant-loop-place l = (l.lines.items ≡ differences l.self l.place) × (l.draw ≡ draw_at l.place) × (l.draw < 65537)
