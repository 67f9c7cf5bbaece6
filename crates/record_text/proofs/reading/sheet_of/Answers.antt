use Rattle.std.proofs.Common.{◌∙◌, ap, ℕ, List, length, arith}
use Rattle.std.proofs.lemmas.Bool.Decides.{nat_tests}
use Rattle.std.proofs.lemmas.Result.{err_from_is_err_and}
use Rattle.csv.specs.Records.{fields_of}
use Rattle.record_text.proofs.ColumnLaws.{columns_within, one_column_each}
use Rattle.record_text.proofs.HeaderLaws.{header_length}
use Rattle.record_text.specs.inner.Places.{start_of}
use Rattle.record_text.proofs.SheetRead.{faulty_columns, faulty_rows, no_header, sheet_read, too_many_columns}
use Rattle.record_text.proofs.Refusals.{no_other_fault, no_value}
use Rattle.record_text.proofs.reading.sheet_of.Goals as goal

pub returns-then-not-branch-clause-fault : goal.returns-then-not-branch-clause-fault
returns-then-not-branch-clause-fault c = λ other bytes at.
    let reads = rw c.if-not-branch.true at c.in_ok-read_next.ensures in
    no_header c.args.survey.now.fields bytes (reads (start_of bytes) at)

pub returns-then-len-gt-MOST_COLUMNS-clause-fault : goal.returns-then-len-gt-MOST_COLUMNS-clause-fault
returns-then-len-gt-MOST_COLUMNS-clause-fault c = λ other bytes at.
    let reads = rw c.if-not-branch.false at c.in_ok-read_next.ensures in
    let (there, standing, begins) = reads (start_of bytes) at in
    let many = rw c.len.ensures at c.if-len-gt-MOST_COLUMNS.true in
    too_many_columns c.args.survey.now.fields bytes (fields_of c.read_next.new.csv_record) there begins (grind (arith, nat_tests))

pub returns-in_err-columns-clause-fault : goal.returns-in_err-columns-clause-fault
returns-in_err-columns-clause-fault c =
    let p = err_from_is_err_and c.from_residual-in_err-columns.result c.from_residual-in_err-columns.ensures.1 in
    let reads = rw c.if-not-branch.false at c.in_ok-read_next.ensures in
    let few = rw c.len.ensures at c.if-len-gt-MOST_COLUMNS.false in
    let found = rw (c.fields.ensures.fields, c.in_ok-header.ensures) at c.in_err-columns.ensures.fault in
    rw p.1 (λ other bytes at.
    let (there, standing, begins) = reads (start_of bytes) at in
    rw p.2 (faulty_columns c.args.survey.now.fields bytes
    (fields_of c.read_next.new.csv_record) there begins c.in_err-columns.field-0.0 (grind (arith, nat_tests)) (found (rw p.2 at other))))

pub read_rows-requires-clause-columns : goal.read_rows-requires-clause-columns
read_rows-requires-clause-columns c =
    let stand = rw c.fields.ensures.fields at c.in_ok-columns.ensures.columns in
    rw c.deref.ensures.value (one_column_each c.args.survey.now.fields c.in_ok-header.header c.in_ok-columns.columns.items stand)

pub read_rows-requires-clause-within : goal.read_rows-requires-clause-within
read_rows-requires-clause-within c =
    let stand = rw c.fields.ensures.fields at c.in_ok-columns.ensures.columns in
    rw (c.deref.ensures.value, c.len-2.ensures) (columns_within c.args.survey.now.fields c.in_ok-header.header c.in_ok-columns.columns.items stand)

pub returns-in_err-row_texts-clause-fault : goal.returns-in_err-row_texts-clause-fault
returns-in_err-row_texts-clause-fault c =
    let p = err_from_is_err_and c.from_residual-in_err-row_texts.result c.from_residual-in_err-row_texts.ensures.1 in
    let reads = rw c.if-not-branch.false at c.in_ok-read_next.ensures in
    let few = rw c.len.ensures at c.if-len-gt-MOST_COLUMNS.false in
    let texts = fields_of c.read_next.new.csv_record in
    let width = c.len-2.ensures ∙ ap (λ (ts : List (List ℕ)). length ts) c.in_ok-header.ensures ∙ header_length texts in
    let stand = rw (c.fields.ensures.fields, c.in_ok-header.ensures) at c.in_ok-columns.ensures.columns in
    let found = rw width at c.in_err-row_texts.ensures.fault in
    rw p.1 (λ other bytes at.
    let (there, standing, begins) = reads (start_of bytes) at in
    rw p.2 (faulty_rows c.args.survey.now.fields bytes texts there begins c.in_err-row_texts.field-0.0 c.in_ok-columns.columns.items
    (grind (arith, nat_tests)) stand (found (rw p.2 at other) there standing)))

pub returns-clause-sheet : goal.returns-clause-sheet
returns-clause-sheet c = λ bytes at.
    let reads = rw c.if-not-branch.false at c.in_ok-read_next.ensures in
    let (there, standing, begins) = reads (start_of bytes) at in
    let few = rw c.len.ensures at c.if-len-gt-MOST_COLUMNS.false in
    let texts = fields_of c.read_next.new.csv_record in
    let width = c.len-2.ensures ∙ ap (λ (ts : List (List ℕ)). length ts) c.in_ok-header.ensures ∙ header_length texts in
    let stand = rw (c.fields.ensures.fields, c.in_ok-header.ensures) at c.in_ok-columns.ensures.columns in
    let rows = rw (width, c.deref.ensures.value) at (c.in_ok-row_texts.ensures.rows there standing) in
    rw c.from_parts.ensures (sheet_read c.args.survey.now.fields bytes texts there begins _
    (grind (arith, nat_tests)) c.in_ok-header.ensures stand rows)

pub returns-in_err-read_next-clause-sheet : goal.returns-in_err-read_next-clause-sheet
returns-in_err-read_next-clause-sheet c = no_value c.from_residual.result _ _ c.from_residual.ensures.1

pub returns-in_err-header-clause-sheet : goal.returns-in_err-header-clause-sheet
returns-in_err-header-clause-sheet c = no_value c.from_residual-in_err-header.result _ _ c.from_residual-in_err-header.ensures.1

pub returns-in_err-columns-clause-sheet : goal.returns-in_err-columns-clause-sheet
returns-in_err-columns-clause-sheet c = no_value c.from_residual-in_err-columns.result _ _ c.from_residual-in_err-columns.ensures.1

pub returns-in_err-row_texts-clause-sheet : goal.returns-in_err-row_texts-clause-sheet
returns-in_err-row_texts-clause-sheet c = no_value c.from_residual-in_err-row_texts.result _ _ c.from_residual-in_err-row_texts.ensures.1

pub returns-in_err-read_next-clause-fault : goal.returns-in_err-read_next-clause-fault
returns-in_err-read_next-clause-fault c = no_other_fault c.from_residual.result _ _ c.from_residual.ensures.1

pub returns-in_err-header-clause-fault : goal.returns-in_err-header-clause-fault
returns-in_err-header-clause-fault c = no_other_fault c.from_residual-in_err-header.result _ _ c.from_residual-in_err-header.ensures.1
