use Rattle.std.proofs.lemmas.Result.{IfErr-weaker, IfOk-weaker}
use Rattle.run_parts.proofs.FieldFaults.{fault_of_fields}
use Rattle.run_parts.proofs.ReadingLaws.{sheet-held, unread-held}
use Rattle.run_parts.proofs.reading.fetch_records.Goals as goal

pub returns-clause-read : goal.returns-clause-read
returns-clause-read g c =
    sheet-held (g.D.Desk.files c.args.desk.now) c.args.name.now c.in_ok-bytes.bytes.items c.args.survey.now.fields c.in_ok-bytes.ensures.bytes
    c.read_records.result (rw c.deref.ensures.value at c.read_records.ensures.sheet) (rw c.deref.ensures.value at c.read_records.ensures.only)

pub returns-clause-sheet : goal.returns-clause-sheet
returns-clause-sheet g c = IfOk-weaker c.read_records.result _ _ (λ sheet is. (c.deref.result.now, is)) c.read_records.ensures.sheet

pub returns-clause-fields : goal.returns-clause-fields
returns-clause-fields g c =
    IfErr-weaker c.read_records.result _ _ (λ told is. fault_of_fields c.args.survey.now.fields c.deref.result.now told is) c.read_records.ensures.fault

pub returns-clause-unread : goal.returns-clause-unread
returns-clause-unread g c =
    unread-held (g.D.Desk.files c.args.desk.now) c.args.name.now c.in_ok-bytes.bytes.items c.args.survey.now.fields c.in_ok-bytes.ensures.bytes
    c.read_records.result (rw c.deref.ensures.value at c.read_records.ensures.fault) (rw c.deref.ensures.value at c.read_records.ensures.unread)
