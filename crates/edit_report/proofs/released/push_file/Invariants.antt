use Rattle.std.proofs.Common.{◌≡◌, ◌++◌, drop}
use Rattle.record_text.specs.Texts.{records_text}
use Rattle.edit_report.specs.Released.{released_rows, released_text_of}
use Rattle.edit_report.proofs.released.push_file.Given as goal

abbrev pub invariant-loop-row_no : goal.invariant-loop-row_no
invariant-loop-row_no l =
    l.writer ++ records_text (released_rows l.survey.fields l.sheet.columns (drop l.row_no l.sheet.row_texts) (drop l.row_no l.ends))
    ≡ released_text_of l.survey l.sheet l.ends
