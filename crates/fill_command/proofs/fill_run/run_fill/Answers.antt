use Rattle.std.proofs.Common.{◌∙◌, inl, subst, sym}
use Rattle.run_parts.specs.Commands.{HasReleased}
use Rattle.run_parts.proofs.CommandLaws.{not-failed, release-refused, released-by, untold-by, whole-by}
use Rattle.fill_command.specs.FillRun.{fill_command, made_of}
use Rattle.fill_command.proofs.fill_run.run_fill.Goals as goal

pub returns-in-Ok-clause-filled : goal.returns-in-Ok-clause-filled
returns-in-Ok-clause-filled g c = λ ended.
    whole-by (fill_command c.args.asked.now) _ (made_of c.args.asked.now c.in-Ok.file) c.tell.result
    (rw (c.status_of.ensures, c.deref.ensures.value) at c.tell.ensures)
    (record { files = c.in-Ok.ensures.files; calls = c.in-Ok.ensures.asked; faultless = c.in-Ok.ensures.faults })
    (not-failed c.tell.result ended)

pub returns-in-Ok-clause-stopped : goal.returns-in-Ok-clause-stopped
returns-in-Ok-clause-stopped g c = λ not.
    untold-by (fill_command c.args.asked.now) _ (made_of c.args.asked.now c.in-Ok.file) c.tell.result
    (rw (c.status_of.ensures, c.deref.ensures.value) at c.tell.ensures)
    (record { files = c.in-Ok.ensures.files; calls = c.in-Ok.ensures.asked; faultless = c.in-Ok.ensures.faults })
    (λ is. not (subst HasReleased (sym is) (released-by c.in-Ok.file.whole)))

pub returns-in-Err-clause-stopped : goal.returns-in-Err-clause-stopped
returns-in-Err-clause-stopped g c = λ not. inl (record {
  fault = c.in-Err.refusal;
  status = c.refuse.ensures.status ∙ c.status.ensures;
  kind = c.in-Err.ensures.kind;
  cause = c.in-Err.ensures.cause;
  calls = c.in-Err.ensures.asked;
  files = c.in-Err.ensures.files;
  faults = c.in-Err.ensures.faults;
  printed = rw c.line.ensures at c.refuse.ensures.printed;
})

pub returns-in-Err-clause-complete : goal.returns-in-Err-clause-complete
returns-in-Err-clause-complete g c =
    release-refused c.args.asked.now.rules c.args.asked.now.records _ c.in-Err.refusal c.refuse.result
    (c.refuse.ensures.status ∙ c.status.ensures) c.in-Err.ensures.cause c.in-Err.ensures.faults
