use Rattle.std.proofs.Common.{◌≡◌, ◌-◌, string_bytes}
use Rattle.std.specs.List.{range_with_len}
use Rattle.edit_line.specs.Lines.{HaveShape}
use Rattle.edit_line.specs.Reductions.{lines_of}
use Rattle.linear_elim.specs.Steps.{with_more}
use Rattle.elimination_bench.specs.inner.Differences.{numbers_of, shape_with}
use Rattle.elimination_bench.specs.inner.Folds.{pairs_answer, steps_answer}
use Rattle.elimination_bench.proofs.elimination.pairs_text.Given as goal

abbrev pub invariant-loop-field : goal.invariant-loop-field
invariant-loop-field l =
    (with_more (string_bytes l.text) (steps_answer l.lines.items (range_with_len l.field (l.count - l.field))) ≡ pairs_answer l.fn.differences l.count)
    × HaveShape (shape_with (numbers_of l.fn.differences)) (lines_of l.lines.items)
