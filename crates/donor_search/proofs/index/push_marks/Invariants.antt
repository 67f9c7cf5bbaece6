use Rattle.std.proofs.Common.{◌≡◌, ◌++◌, ◌+◌, length, take}
use Rattle.edit_model.specs.PlainNumbers.{HasPlainNumbers}
use Rattle.donor_measure.specs.Buckets.{marks_of}
use Rattle.donor_search.proofs.index.push_marks.Given as goal

abbrev pub invariant-loop-field : goal.invariant-loop-field
invariant-loop-field l = record {
  size : length l.marks.items ≡ length l.initial.marks.items + l.field;
  marks : HasPlainNumbers l.row → l.marks.items ≡ l.initial.marks.items ++ take l.field (marks_of l.yardsticks l.row);
}
