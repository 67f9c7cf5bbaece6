use Rattle.run_parts.proofs.FieldFaults.{fault_of_fields}
use Rattle.page_command.proofs.ReadingLaws.{released-call, unread-released}
use Rattle.page_command.proofs.reading.fetch_released.Goals as goal

pub released_refusal-requires : goal.released_refusal-requires
released_refusal-requires g c =
    rw c.fields.ensures.fields (fault_of_fields c.args.survey.now.fields c.deref.result.now c.in-Err.fault c.in-Err.ensures.fault)

pub returns-clause-cause : goal.returns-clause-cause
returns-clause-cause g c =
    unread-released (g.D.Desk.files c.args.desk.now) c.args.name.now c.in_ok-bytes.bytes.items c.in_ok-bytes.ensures.bytes
    c.args.survey.now.fields c.in-Err.fault (rw c.deref.ensures.value at c.in-Err.ensures.fault)
    (rw c.deref.ensures.value at c.in-Err.ensures.unread) c.released_refusal.result
    (rw c.fields.ensures.fields at c.released_refusal.ensures)

pub returns-clause-asked : goal.returns-clause-asked
returns-clause-asked g c =
    released-call (g.D.Desk.calls c.args.desk.now) (g.D.Desk.calls c.fetch_file.new.desk) c.args.name.now c.args.survey.now.fields
    c.in-Err.fault c.released_refusal.result (rw c.fields.ensures.fields at c.released_refusal.ensures) c.in_ok-bytes.ensures.asked
