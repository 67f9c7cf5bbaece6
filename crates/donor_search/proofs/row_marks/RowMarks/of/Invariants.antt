use Rattle.std.proofs.Common.{◌≡◌, ◌++◌, drop}
use Rattle.std.specs.List.{AllByRecursion, flat_map}
use Rattle.edit_model.specs.PlainNumbers.{HasPlainNumbers}
use Rattle.donor_measure.specs.Buckets.{marks_of}
use Rattle.donor_measure.specs.Yardsticks.{yardsticks_of}
use Rattle.donor_search.proofs.row_marks.RowMarks.of.Given as goal

abbrev pub invariant-loop-row_no : goal.invariant-loop-row_no
invariant-loop-row_no l = AllByRecursion HasPlainNumbers l.sheet.rows
    → l.marks.items ++ flat_map (marks_of (yardsticks_of l.survey.fields)) (drop l.row_no l.sheet.rows) ≡ flat_map
    (marks_of (yardsticks_of l.survey.fields)) l.sheet.rows
