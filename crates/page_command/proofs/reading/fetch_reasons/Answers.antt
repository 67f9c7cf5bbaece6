use Rattle.page_command.proofs.ReadingLaws.{unread-reasons}
use Rattle.page_command.proofs.reading.fetch_reasons.Goals as goal

pub returns-clause-cause : goal.returns-clause-cause
returns-clause-cause g c =
    unread-reasons (g.D.Desk.files c.args.desk.now) c.args.name.now c.in_ok-bytes.bytes.items c.in_ok-bytes.ensures.bytes
    c.args.survey.now.fields c.args.rows c.in-Err.fault (rw c.deref.ensures.value at c.in-Err.ensures.fault)
    (rw c.deref.ensures.value at c.in-Err.ensures.unread) c.reasons_refusal.result c.reasons_refusal.ensures
