use Rattle.std.proofs.Common.{◌≡◌, None, drop, take}
use Rattle.reason_lines.specs.ReasonFiles.{changes_in, left_outs_in, lines_fault}
use Rattle.reason_lines.proofs.reading.read_lines.Given as goal

abbrev pub invariant-loop-line : goal.invariant-loop-line
invariant-loop-line l = (lines_fault l.survey.fields l.rows 0 None l.lines ≡ lines_fault l.survey.fields l.rows l.line l.before (drop l.line l.lines))
    × (l.changes.items ≡ changes_in l.survey.fields l.rows (take l.line l.lines))
    × (l.left_out.items ≡ left_outs_in l.survey.fields l.rows (take l.line l.lines))
