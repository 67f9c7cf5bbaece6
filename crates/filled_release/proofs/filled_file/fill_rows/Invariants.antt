use Rattle.filled_release.specs.inner.FilledRows.{IsFilledTo}
use Rattle.filled_release.proofs.filled_file.fill_rows.Given as goal

abbrev pub invariant-loop-row_no : goal.invariant-loop-row_no
invariant-loop-row_no l = IsFilledTo l.survey l.sheet l.budget l.row_no l.writer l.counts

abbrev pub ghosts-answer_for : goal.ghosts-answer_for
ghosts-answer_for a = record { name = a.blank.name; parts = a.blank.parts }
