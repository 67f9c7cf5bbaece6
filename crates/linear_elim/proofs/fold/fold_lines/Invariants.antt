use Rattle.std.proofs.Common.{◌≡◌, ◌≤◌, ◌+◌}
use Rattle.edit_line.specs.Lines.{HaveShape}
use Rattle.edit_line.specs.Reductions.{AreOwn, lines_of}
use Rattle.linear_elim.specs.Systems.{chosen_fields, fold_count, fold_result, system_at, system_count}
use Rattle.linear_elim.specs.inner.FoldLines.{so_far}
use Rattle.linear_elim.proofs.SystemLoops.{chosen_from}
use Rattle.linear_elim.proofs.fold.fold_lines.Given as goal

abbrev pub invariant-loop-field : goal.invariant-loop-field
invariant-loop-field g l =
    (fold_result (so_far l.base l.lines) (chosen_from l.fields l.count-items l.field) ≡ system_at l.edits l.fields)
    × (l.steps + fold_count (so_far l.base l.lines) (chosen_from l.fields l.count-items l.field)
    ≡ l.initial.steps + system_count l.edits.lines (chosen_fields l.edits.shape l.fields))
    × HaveShape l.edits.shape (lines_of (so_far l.base l.lines))
    × AreOwn (lines_of (so_far l.base l.lines))
    × (l.initial.steps ≤ l.steps)
