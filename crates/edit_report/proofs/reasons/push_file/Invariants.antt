use Rattle.std.proofs.Common.{◌≡◌, ◌++◌, drop}
use Rattle.record_text.specs.Texts.{records_text}
use Rattle.edit_report.specs.Reasons.{reasons_from, reasons_text_of}
use Rattle.edit_report.proofs.reasons.push_file.Given as goal

abbrev pub invariant-loop-row_no : goal.invariant-loop-row_no
invariant-loop-row_no l =
    l.writer ++ records_text (reasons_from l.survey.fields l.sheet.columns l.row_no (drop l.row_no l.sheet.row_texts) (drop l.row_no l.ends))
    ≡ reasons_text_of l.survey l.sheet l.ends
