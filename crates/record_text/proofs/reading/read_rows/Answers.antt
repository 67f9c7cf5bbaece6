use Rattle.std.proofs.Common.{arith}
use Rattle.std.proofs.lemmas.List.Elements.{All-from_recursion}
use Rattle.std.proofs.lemmas.Result.{err_from_is_err_and}
use Rattle.record_text.proofs.FaultLaws.{faultless_equally_long, faultless_few}
use Rattle.record_text.proofs.RowsTold.{fault_behind, rows_behind}
use Rattle.record_text.proofs.ValueLaws.{rows_length}
use Rattle.record_text.proofs.Refusals.{no_other_fault, no_value}
use Rattle.record_text.proofs.reading.read_rows.Goals as goal

pub returns-in_err-row_texts-clause-fault : goal.returns-in_err-row_texts-clause-fault
returns-in_err-row_texts-clause-fault c =
    let p = err_from_is_err_and c.from_residual.result c.from_residual.ensures.1 in
    rw p.1 (fault_behind c.args.width c.args.reader.now c.in_err-row_texts.field-0.0 _ p.2 c.in_err-row_texts.ensures.fault)

pub rows_of-requires-clause-equal : goal.rows_of-requires-clause-equal
rows_of-requires-clause-equal c =
    let equal = faultless_equally_long 200000 c.args.width 0 c.in_ok-row_texts.row_texts.items c.in_ok-row_texts.ensures.faultless in
    rw c.deref.ensures.value (All-from_recursion _ _ equal)

pub returns-clause-rows : goal.returns-clause-rows
returns-clause-rows c =
    rows_behind c.args.width c.args.reader.now c.args.survey.now.fields c.args.columns.now c.in_ok-row_texts.row_texts.items c.in_ok-rows.rows.items
    c.in_ok-row_texts.ensures.records c.in_ok-row_texts.ensures.faultless (rw c.deref.ensures.value at c.in_ok-rows.ensures)

pub returns-clause-equal : goal.returns-clause-equal
returns-clause-equal c =
    rows_length c.args.survey.now.fields c.args.columns.now c.in_ok-row_texts.row_texts.items c.in_ok-rows.rows.items
    (rw c.deref.ensures.value at c.in_ok-rows.ensures)

pub returns-clause-few : goal.returns-clause-few
returns-clause-few c =
    let same =
    rows_length c.args.survey.now.fields c.args.columns.now c.in_ok-row_texts.row_texts.items c.in_ok-rows.rows.items
    (rw c.deref.ensures.value at c.in_ok-rows.ensures) in
    let few = faultless_few 200000 c.args.width 0 c.in_ok-row_texts.row_texts.items (omega arith) c.in_ok-row_texts.ensures.faultless in
    omega arith

pub returns-in_err-row_texts-clause-rows : goal.returns-in_err-row_texts-clause-rows
returns-in_err-row_texts-clause-rows c = no_value c.from_residual.result _ _ c.from_residual.ensures.1

pub returns-in_err-row_texts-clause-equal : goal.returns-in_err-row_texts-clause-equal
returns-in_err-row_texts-clause-equal c = no_value c.from_residual.result _ _ c.from_residual.ensures.1

pub returns-in_err-row_texts-clause-few : goal.returns-in_err-row_texts-clause-few
returns-in_err-row_texts-clause-few c = no_value c.from_residual.result _ _ c.from_residual.ensures.1

pub returns-in_err-rows-clause-rows : goal.returns-in_err-rows-clause-rows
returns-in_err-rows-clause-rows c = no_value c.from_residual-in_err-rows.result _ _ c.from_residual-in_err-rows.ensures.1

pub returns-in_err-rows-clause-equal : goal.returns-in_err-rows-clause-equal
returns-in_err-rows-clause-equal c = no_value c.from_residual-in_err-rows.result _ _ c.from_residual-in_err-rows.ensures.1

pub returns-in_err-rows-clause-few : goal.returns-in_err-rows-clause-few
returns-in_err-rows-clause-few c = no_value c.from_residual-in_err-rows.result _ _ c.from_residual-in_err-rows.ensures.1

pub returns-in_err-rows-clause-fault : goal.returns-in_err-rows-clause-fault
returns-in_err-rows-clause-fault c = no_other_fault c.from_residual-in_err-rows.result _ _ c.from_residual-in_err-rows.ensures.1
