use Rattle.std.proofs.Common.{◌∙◌, inl, sym}
use Rattle.run_parts.proofs.CommandLaws.{untold-by, whole-by}
use Rattle.run_parts.proofs.ToldLaws.{each-told}
use Rattle.page_command.specs.PageRun.{page_command}
use Rattle.page_command.specs.inner.PageParts.{made_by}
use Rattle.page_command.proofs.DueLaws.{any_answer}
use Rattle.page_command.proofs.RunLaws.{page-refused, refused-by}
use Rattle.page_command.proofs.page_run.run_page.Goals as goal

pub returns-in-Ok-clause-written : goal.returns-in-Ok-clause-written
returns-in-Ok-clause-written g c = λ done.
    whole-by (page_command c.args.asked.now) _ (made_by c.args.asked.now c.in-Ok.file) c.tell.result
    (rw c.deref.ensures.value at c.tell.ensures)
    (record { files = c.in-Ok.ensures.files; calls = c.in-Ok.ensures.asked; faultless = c.in-Ok.ensures.faults })
    (λ failed. cc (sym done ∙ failed))

pub returns-in-Ok-clause-stopped : goal.returns-in-Ok-clause-stopped
returns-in-Ok-clause-stopped g c = λ not. inl
    (untold-by (page_command c.args.asked.now) _ (made_by c.args.asked.now c.in-Ok.file) c.tell.result
    (rw c.deref.ensures.value at c.tell.ensures)
    (record { files = c.in-Ok.ensures.files; calls = c.in-Ok.ensures.asked; faultless = c.in-Ok.ensures.faults })
    (λ is. not is))

pub returns-in-Ok-clause-due : goal.returns-in-Ok-clause-due
returns-in-Ok-clause-due g c =
    each-told (g.D.Desk.files c.args.desk.now) (λ files done. any_answer c.args.asked.now files done c.tell.result) c.in-Ok.ensures.due

pub returns-in-Err-clause-stopped : goal.returns-in-Err-clause-stopped
returns-in-Err-clause-stopped g c = λ not.
    refused-by c.args.asked.now _ c.in-Err.refusal c.refuse.result (c.refuse.ensures.status ∙ c.status.ensures)
    c.in-Err.ensures.kind c.in-Err.ensures.cause c.in-Err.ensures.asked c.in-Err.ensures.files c.in-Err.ensures.faults
    (rw c.line.ensures at c.refuse.ensures.printed)

pub returns-in-Err-clause-complete : goal.returns-in-Err-clause-complete
returns-in-Err-clause-complete g c =
    page-refused c.args.asked.now _ c.in-Err.refusal c.refuse.result (c.refuse.ensures.status ∙ c.status.ensures)
    c.in-Err.ensures.cause c.in-Err.ensures.faults

pub returns-in-Err-clause-due : goal.returns-in-Err-clause-due
returns-in-Err-clause-due g c = rw (c.refuse.ensures.status ∙ c.status.ensures) c.in-Err.ensures.due
