use Rattle.std.proofs.Common.{◌≡◌, ◌+◌, ◌++◌, drop, map}
use Rattle.rule_report.specs.Reports.{reports_from}
use Rattle.rule_report.proofs.reports.report.Given as goal

abbrev pub invariant-loop-place : goal.invariant-loop-place
invariant-loop-place l = map (λ t. t.items) l.texts.items ++ reports_from l.survey.fields (l.place + 1) (drop l.place l.lines) (drop l.place l.verdicts)
    ≡ reports_from l.survey.fields 1 l.lines l.verdicts
