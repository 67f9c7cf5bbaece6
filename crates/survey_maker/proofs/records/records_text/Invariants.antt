use Rattle.std.proofs.Common.{◌≡◌, ◌++◌}
use Rattle.survey_maker.specs.RecordFiles.{after_rows, header_line, row_lines}
use Rattle.survey_maker.proofs.records.records_text.Given as goal

abbrev pub invariant-loop-row : goal.invariant-loop-row
invariant-loop-row l =
    (l.text.items ≡ header_line ++ row_lines l.start l.row) × (l.generator ≡ after_rows l.start l.row)
