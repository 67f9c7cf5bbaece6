use Rattle.std.proofs.Common.{◌∙◌, ap, arith, length, map, [], is_none, true}
use Rattle.std.proofs.lemmas.List.{length-append, length-map}
use Rattle.edit_line.specs.Lines.{LineParts}
use Rattle.edit_normal.specs.RuleLines.{normal_lines_of}
use Rattle.cert_check.specs.Dropped.{kept_flags}
use Rattle.cert_check.specs.Tables.{shared_lines}
use Rattle.record_text.proofs.SheetLaws.{columns_in_header, few_sheet_rows, one_column_a_field, row_texts_as_long_as_header, rows_are_records}
use Rattle.cert_check.specs.inner.Answers.{audit_in}
use Rattle.cert_check.proofs.LineNumbers.{all-lines}
use Rattle.cert_check.proofs.AuditLaws.{claims-answers, counts-fit, file-answers, in-limits, record-answers, valid-answers}
use Rattle.std.proofs.lemmas.Grind.{elements}
use Rattle.cert_check.proofs.said_check.check_records.Goals as goal

pub released_count-count-requires : goal.released_count-count-requires
released_count-count-requires c =
    let a = audit_in c.args.audit.now [] in
    let counts = counts-fit a c.args.said.now (c.requires.head []) in
    omega (arith, ap length c.rows-saids.ensures, counts.1, few_sheet_rows a.survey.fields c.requires.sheet.0 a.sheet c.requires.sheet.1)

pub released_rows-requires : goal.released_rows-requires
released_rows-requires c =
    let a = audit_in c.args.audit.now [] in
    rw (c.header.ensures, c.released_count-count.ensures, c.rows-saids.ensures) (in-limits a c.args.said.now (c.requires.head []) c.requires.sheet.0
    c.requires.sheet.1)

pub returns-in_default : goal.returns-in_default
returns-in_default c = λ bytes spelled.
    let a = audit_in c.args.audit.now bytes in
    let none = rw (c.in_default.is, c.header.ensures, c.released_count-count.ensures, c.rows-saids.ensures) at c.in_ok-released.ensures.none in
    rw c.rejection.ensures (file-answers a c.args.said.now spelled (c.requires.head bytes) c.requires.dropped c.requires.table c.requires.sheet.0
    c.requires.sheet.1 none)

pub rows_fault-requires-clause-checking : goal.rows_fault-requires-clause-checking
rows_fault-requires-clause-checking c =
    let counts = counts-fit (audit_in c.args.audit.now []) c.args.said.now (c.requires.head []) in
    let shared = shared_lines c.args.audit.now.rules.now c.args.said.now in
    let flags = length-map c.args.said.now.verdicts is_none in
    let trues = length-map shared (λ (line : LineParts). true) in
    record {
      lists = omega (
        arith,
        ap length c.requires.lines,
        ap length c.requires.usable,
        length-append (normal_lines_of c.args.audit.now.rules.now) shared,
        length-append (kept_flags c.args.said.now) (map (λ (line : LineParts). true) shared),
        counts.0,
        flags,
        trues,
      );
      over = c.requires.over;
      columns = ap length c.columns.ensures ∙ one_column_a_field c.args.audit.now.rules.now.fields c.requires.sheet.0 c.args.audit.now.records.now
          c.requires.sheet.1;
    }

pub rows_fault-requires-clause-one_each : goal.rows_fault-requires-clause-one_each
rows_fault-requires-clause-one_each c =
    ap length c.rows-saids.ensures ∙ (counts-fit (audit_in c.args.audit.now []) c.args.said.now (c.requires.head [])).1

pub rows_fault-requires-clause-rows : goal.rows_fault-requires-clause-rows
rows_fault-requires-clause-rows c = rows_are_records c.args.audit.now.rules.now.fields c.requires.sheet.0 c.args.audit.now.records.now c.requires.sheet.1

pub rows_fault-requires-clause-within : goal.rows_fault-requires-clause-within
rows_fault-requires-clause-within c = rw c.columns.ensures (columns_in_header c.args.audit.now.rules.now.fields c.requires.sheet.0 c.args.audit.now.records.now
    c.requires.sheet.1)

pub rows_fault-requires-clause-long : goal.rows_fault-requires-clause-long
rows_fault-requires-clause-long c = row_texts_as_long_as_header c.args.audit.now.rules.now.fields c.requires.sheet.0 c.args.audit.now.records.now
    c.requires.sheet.1

pub rows_fault-requires-clause-as_long : goal.rows_fault-requires-clause-as_long
rows_fault-requires-clause-as_long c =
    let are = rw (c.in-Some.is, c.header.ensures, c.released_count-count.ensures, c.rows-saids.ensures) at c.in_ok-released.ensures.some in are.long

pub returns-in-Some-2 : goal.returns-in-Some-2
returns-in-Some-2 c = λ bytes spelled.
    let a = audit_in c.args.audit.now bytes in
    let are = rw (c.in-Some.is, c.header.ensures, c.released_count-count.ensures, c.rows-saids.ensures) at c.in_ok-released.ensures.some in
    let found = rw (c.in-Some-2.is, c.rows-saids.ensures, c.requires.lines, c.requires.usable, c.columns.ensures, c.budget.ensures) at c.in_ok-fault.ensures in
    rw (c.rejection-in-Some-2.ensures, c.records_line.ensures)
    (record-answers a c.args.said.now spelled (c.requires.head bytes) c.requires.dropped c.requires.table c.requires.sheet.0 c.requires.sheet.1
    c.in-Some.released.row_texts are c.in-Some-2.fault.offset c.in-Some-2.fault.why found.0 found.1)

pub claims_fault-requires-clause-rows : goal.claims_fault-requires-clause-rows
claims_fault-requires-clause-rows c = rows_are_records c.args.audit.now.rules.now.fields c.requires.sheet.0 c.args.audit.now.records.now c.requires.sheet.1

pub claims_fault-requires-clause-one_each : goal.claims_fault-requires-clause-one_each
claims_fault-requires-clause-one_each c = (counts-fit (audit_in c.args.audit.now []) c.args.said.now (c.requires.head [])).1

pub returns-in-Some-3 : goal.returns-in-Some-3
returns-in-Some-3 c = λ bytes spelled.
    let a = audit_in c.args.audit.now bytes in
    let are = rw (c.in-Some.is, c.header.ensures, c.released_count-count.ensures, c.rows-saids.ensures) at c.in_ok-released.ensures.some in
    let valid = rw (c.in_default-2.is, c.rows-saids.ensures, c.requires.lines, c.requires.usable, c.columns.ensures, c.budget.ensures) at
    c.in_ok-fault.ensures in
    let found = rw c.in-Some-3.is at c.in_ok-line.ensures in
    rw c.rejection-in-Some-3.ensures
    (claims-answers a c.args.said.now spelled (c.requires.head bytes) c.requires.dropped c.requires.table c.requires.sheet.0 c.requires.sheet.1
    c.in-Some.released.row_texts are valid c.in-Some-3.line found)

pub returns : goal.returns
returns c = λ bytes spelled.
    let a = audit_in c.args.audit.now bytes in
    let are = rw (c.in-Some.is, c.header.ensures, c.released_count-count.ensures, c.rows-saids.ensures) at c.in_ok-released.ensures.some in
    let valid = rw (c.in_default-2.is, c.rows-saids.ensures, c.requires.lines, c.requires.usable, c.columns.ensures, c.budget.ensures) at
    c.in_ok-fault.ensures in
    let claims = rw c.in_default-3.is at c.in_ok-line.ensures in
    rw (c.released_count-count.ensures, c.rows-saids.ensures)
    (valid-answers a c.args.said.now spelled (c.requires.head bytes) c.requires.dropped c.requires.table c.requires.sheet.0 c.requires.sheet.1
    c.in-Some.released.row_texts are valid claims)

pub rows_fault-requires-clause-few : goal.rows_fault-requires-clause-few
rows_fault-requires-clause-few c = rw c.rows-saids.ensures (omega (arith, all-lines c.args.said.now, c.requires.counted))

pub overflow_add-records_line-in-Some-2 : goal.overflow_add-records_line-in-Some-2
overflow_add-records_line-in-Some-2 c =
    let found = rw (c.in-Some-2.is, c.rows-saids.ensures) at c.in_ok-fault.ensures in
    omega (arith, all-lines c.args.said.now, c.requires.counted, c.records_line.ensures, found.2)

pub overflow_add-records_line : goal.overflow_add-records_line
overflow_add-records_line c = grind (arith, elements)
