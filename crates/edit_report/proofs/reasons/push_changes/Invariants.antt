use Rattle.std.proofs.Common.{◌≡◌, ◌++◌, drop}
use Rattle.record_text.specs.Texts.{records_text}
use Rattle.edit_report.specs.Reasons.{changed_lines}
use Rattle.edit_report.proofs.reasons.push_changes.Given as goal

abbrev pub invariant-loop-place : goal.invariant-loop-place
invariant-loop-place l =
    l.writer ++ records_text (changed_lines l.survey.fields l.layout.columns l.row.number l.row.read.now l.row.end.now.donor l.gift.row (drop l.place l.fields)
    (drop l.place l.hows))
    ≡ l.fn.writer ++ records_text (changed_lines l.survey.fields l.layout.columns l.row.number l.row.read.now l.row.end.now.donor l.gift.row l.fields l.hows)
