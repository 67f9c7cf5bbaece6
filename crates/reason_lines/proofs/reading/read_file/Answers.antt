use Rattle.std.proofs.Common.{◌≡◌, ◌∙◌, sym}
use Rattle.reason_lines.specs.ReasonFiles.{reasons_header}
use Rattle.reason_lines.proofs.LineLaws.{exact_by_lines, fault_by_lines, lines_of_seven}
use Rattle.reason_lines.proofs.reading.read_file.Goals as goal

pub read_lines-requires-clause-seven : goal.read_lines-requires-clause-seven
read_lines-requires-clause-seven c =
    let header : c.in_ok-table.table.header ≡ reasons_header = sym c.header.ensures ∙ c.is_header.ensures.0 c.if-not-is_header.false in
    rw c.rows.ensures.rows (lines_of_seven c.args.survey.now.fields c.args.rows c.args.bytes.now c.in_ok-table.table c.in_ok-table.ensures.table header)

pub returns-clause-exact : goal.returns-clause-exact
returns-clause-exact c =
    let header : c.in_ok-table.table.header ≡ reasons_header = sym c.header.ensures ∙ c.is_header.ensures.0 c.if-not-is_header.false in
    exact_by_lines c.args.survey.now.fields c.args.rows c.args.bytes.now c.in_ok-table.table c.in_ok-table.ensures.table header c.read_lines.result
    (rw c.rows.ensures.rows at c.read_lines.ensures.faultless) (rw c.rows.ensures.rows at c.read_lines.ensures.changes)
    (rw c.rows.ensures.rows at c.read_lines.ensures.left_out)

pub returns-clause-fault : goal.returns-clause-fault
returns-clause-fault c =
    let header : c.in_ok-table.table.header ≡ reasons_header = sym c.header.ensures ∙ c.is_header.ensures.0 c.if-not-is_header.false in
    fault_by_lines c.args.survey.now.fields c.args.rows c.args.bytes.now c.in_ok-table.table c.in_ok-table.ensures.table header c.read_lines.result
    (rw c.rows.ensures.rows at c.read_lines.ensures.fault)
