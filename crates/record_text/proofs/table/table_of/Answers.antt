use Rattle.std.proofs.Common.{◌∙◌, ap, ℕ, List, length, arith}
use Rattle.std.proofs.lemmas.Result.{err_from_is_err_and}
use Rattle.csv.specs.Records.{fields_of}
use Rattle.record_text.specs.Tables.{most_table_rows}
use Rattle.record_text.proofs.FaultLaws.{faultless_few}
use Rattle.record_text.specs.inner.Places.{start_of}
use Rattle.record_text.proofs.HeaderLaws.{header_length}
use Rattle.record_text.proofs.TableRead.{faulty_texts, no_table, table_read}
use Rattle.record_text.proofs.Refusals.{no_other_fault, no_value}
use Rattle.record_text.proofs.table.table_of.Goals as goal

pub returns-then-not-branch-clause-fault : goal.returns-then-not-branch-clause-fault
returns-then-not-branch-clause-fault c = λ other bytes at.
    let reads = rw c.if-not-branch.true at c.in_ok-read_next.ensures in
    no_table bytes (reads (start_of bytes) at)

pub returns-in_err-rows-clause-fault : goal.returns-in_err-rows-clause-fault
returns-in_err-rows-clause-fault c =
    let p = err_from_is_err_and c.from_residual-in_err-rows.result c.from_residual-in_err-rows.ensures.1 in
    let reads = rw c.if-not-branch.false at c.in_ok-read_next.ensures in
    let texts = fields_of c.read_next.new.csv_record in
    let width = c.len.ensures ∙ ap (λ (ts : List (List ℕ)). length ts) c.in_ok-header.ensures ∙ header_length texts in
    let found = rw width at c.in_err-rows.ensures.fault in
    rw p.1 (λ other bytes at.
    let (there, standing, begins) = reads (start_of bytes) at in
    rw p.2 (faulty_texts bytes texts there begins c.in_err-rows.field-0.0 (found (rw p.2 at other) there standing)))

pub invariant_of-result : goal.invariant_of-result
invariant_of-result c =
    let few = faultless_few most_table_rows c.len.result 0 c.in_ok-rows.rows.items (omega arith) c.in_ok-rows.ensures.faultless in
    omega (arith, few)

pub returns-clause-table : goal.returns-clause-table
returns-clause-table c = λ bytes at.
    let reads = rw c.if-not-branch.false at c.in_ok-read_next.ensures in
    let (there, standing, begins) = reads (start_of bytes) at in
    let texts = fields_of c.read_next.new.csv_record in
    let width = c.len.ensures ∙ ap (λ (ts : List (List ℕ)). length ts) c.in_ok-header.ensures ∙ header_length texts in
    table_read bytes texts there begins _ c.in_ok-header.ensures (c.in_ok-rows.ensures.records there standing)
    (rw width at c.in_ok-rows.ensures.faultless)

pub returns-in_err-read_next-clause-table : goal.returns-in_err-read_next-clause-table
returns-in_err-read_next-clause-table c = no_value c.from_residual.result _ _ c.from_residual.ensures.1

pub returns-in_err-header-clause-table : goal.returns-in_err-header-clause-table
returns-in_err-header-clause-table c = no_value c.from_residual-in_err-header.result _ _ c.from_residual-in_err-header.ensures.1

pub returns-in_err-rows-clause-table : goal.returns-in_err-rows-clause-table
returns-in_err-rows-clause-table c = no_value c.from_residual-in_err-rows.result _ _ c.from_residual-in_err-rows.ensures.1

pub returns-in_err-read_next-clause-fault : goal.returns-in_err-read_next-clause-fault
returns-in_err-read_next-clause-fault c = no_other_fault c.from_residual.result _ _ c.from_residual.ensures.1

pub returns-in_err-header-clause-fault : goal.returns-in_err-header-clause-fault
returns-in_err-header-clause-fault c = no_other_fault c.from_residual-in_err-header.result _ _ c.from_residual-in_err-header.ensures.1
