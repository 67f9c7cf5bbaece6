use Rattle.bound_cert.specs.Paths.{changes}
use Rattle.record_text.specs.Sheets.{text_at}
use Rattle.cert_check.proofs.ValueLoop.{IsBegun}
use Rattle.cert_check.proofs.new_values.new_values.Given as goal

abbrev pub invariant-loop-field : goal.invariant-loop-field
invariant-loop-field l = IsBegun (changes l.checking.survey.now.fields l.path) (text_at l.checking.columns.now l.texts) l.checking.survey.now.fields l.row
    l.field l.values.items
