use Rattle.std.proofs.Common.{◌∷◌, [], refl, arith, length-append}
use Rattle.csv.specs.Records.{fields_of}
use Rattle.record_text.proofs.Refusals.{no_other_fault, no_value}
use Rattle.record_text.proofs.RowsRead.{faulty_row, read_all, read_more, read_none, row_too_many}
use Rattle.record_text.proofs.row_texts.read_row_texts.Goals as goal

pub loop-row_no-init : goal.loop-row_no-init
loop-row_no-init c = rw c.new-row_texts.ensures.items (read_none c.args.most c.args.width c.args.reader.now, refl)

pub returns-then-not-branch-clause-records : goal.returns-then-not-branch-clause-records
returns-then-not-branch-clause-records c =
    let reads = rw c.if-not-branch.true at c.in_ok-read_next.ensures in
    read_all c.args.most c.args.width c.args.reader.now c.loop-row_no.reader c.read_next.new.reader c.loop-row_no.row_texts.items
    (fields_of c.read_next.new.csv_record) c.loop-row_no.invariant.0 reads

pub returns-then-not-branch-clause-faultless : goal.returns-then-not-branch-clause-faultless
returns-then-not-branch-clause-faultless c = c.loop-row_no.invariant.0.faultless

pub returns-then-len-width-clause-fault : goal.returns-then-len-width-clause-fault
returns-then-len-width-clause-fault c = λ other.
    let reads = rw c.if-not-branch.false at c.in_ok-read_next.ensures in
    faulty_row c.args.most c.args.width c.args.reader.now c.loop-row_no.reader c.read_next.new.reader c.loop-row_no.row_texts.items
    (fields_of c.read_next.new.csv_record) c.loop-row_no.invariant.0
    c.loop-row_no.row_no reads c.loop-row_no.invariant.1 c.loop-row_no-test.true (rw c.len.ensures at c.if-len-width.true)

pub loop-row_no-preserved : goal.loop-row_no-preserved
loop-row_no-preserved c =
    let reads = rw c.if-not-branch.false at c.in_ok-read_next.ensures in
    let texts = fields_of c.read_next.new.csv_record in
    let more = read_more c.args.most c.args.width c.args.reader.now c.loop-row_no.reader c.read_next.new.reader c.loop-row_no.row_texts.items texts
    c.loop-row_no.invariant.0
    reads (omega (arith, c.loop-row_no.invariant.1, c.loop-row_no-test.true)) (rw c.len.ensures at c.if-len-width.false) in (
      rw (c.in_ok-push.ensures.items, c.in_ok-texts.ensures) more,
      rw c.in_ok-push.ensures.items (omega (arith, length-append c.loop-row_no.row_texts.items (c.in_ok-texts.texts ∷ []), c.loop-row_no.invariant.1)),
    )

pub returns-then-branch-clause-fault : goal.returns-then-branch-clause-fault
returns-then-branch-clause-fault c = λ other.
    let reads = rw c.if-branch.true at c.in_ok-read_next-2.ensures in
    row_too_many c.args.most c.args.width c.args.reader.now c.loop-row_no.reader c.read_next-2.new.reader c.loop-row_no.row_texts.items
    (fields_of c.read_next-2.new.csv_record) c.loop-row_no.invariant.0
    reads (omega arith)

pub returns-clause-records : goal.returns-clause-records
returns-clause-records c =
    let reads = rw c.if-branch.false at c.in_ok-read_next-2.ensures in
    read_all c.args.most c.args.width c.args.reader.now c.loop-row_no.reader c.read_next-2.new.reader c.loop-row_no.row_texts.items
    (fields_of c.read_next-2.new.csv_record) c.loop-row_no.invariant.0 reads

pub returns-clause-faultless : goal.returns-clause-faultless
returns-clause-faultless c = c.loop-row_no.invariant.0.faultless

pub returns-in_err-read_next-clause-records : goal.returns-in_err-read_next-clause-records
returns-in_err-read_next-clause-records c = no_value c.from_residual.result _ _ c.from_residual.ensures.1

pub returns-in_err-read_next-clause-faultless : goal.returns-in_err-read_next-clause-faultless
returns-in_err-read_next-clause-faultless c = no_value c.from_residual.result _ _ c.from_residual.ensures.1

pub returns-in_err-read_next-clause-fault : goal.returns-in_err-read_next-clause-fault
returns-in_err-read_next-clause-fault c = no_other_fault c.from_residual.result _ _ c.from_residual.ensures.1

pub returns-in_err-texts-clause-records : goal.returns-in_err-texts-clause-records
returns-in_err-texts-clause-records c = no_value c.from_residual-in_err-texts.result _ _ c.from_residual-in_err-texts.ensures.1

pub returns-in_err-texts-clause-faultless : goal.returns-in_err-texts-clause-faultless
returns-in_err-texts-clause-faultless c = no_value c.from_residual-in_err-texts.result _ _ c.from_residual-in_err-texts.ensures.1

pub returns-in_err-texts-clause-fault : goal.returns-in_err-texts-clause-fault
returns-in_err-texts-clause-fault c = no_other_fault c.from_residual-in_err-texts.result _ _ c.from_residual-in_err-texts.ensures.1

pub returns-in_err-push-clause-records : goal.returns-in_err-push-clause-records
returns-in_err-push-clause-records c = no_value c.from_residual-in_err-push.result _ _ c.from_residual-in_err-push.ensures.1

pub returns-in_err-push-clause-faultless : goal.returns-in_err-push-clause-faultless
returns-in_err-push-clause-faultless c = no_value c.from_residual-in_err-push.result _ _ c.from_residual-in_err-push.ensures.1

pub returns-in_err-push-clause-fault : goal.returns-in_err-push-clause-fault
returns-in_err-push-clause-fault c = no_other_fault c.from_residual-in_err-push.result _ _ c.from_residual-in_err-push.ensures.1

pub returns-in_err-read_next-2-clause-records : goal.returns-in_err-read_next-2-clause-records
returns-in_err-read_next-2-clause-records c = no_value c.from_residual-in_err-read_next-2.result _ _ c.from_residual-in_err-read_next-2.ensures.1

pub returns-in_err-read_next-2-clause-faultless : goal.returns-in_err-read_next-2-clause-faultless
returns-in_err-read_next-2-clause-faultless c = no_value c.from_residual-in_err-read_next-2.result _ _ c.from_residual-in_err-read_next-2.ensures.1

pub returns-in_err-read_next-2-clause-fault : goal.returns-in_err-read_next-2-clause-fault
returns-in_err-read_next-2-clause-fault c = no_other_fault c.from_residual-in_err-read_next-2.result _ _ c.from_residual-in_err-read_next-2.ensures.1
