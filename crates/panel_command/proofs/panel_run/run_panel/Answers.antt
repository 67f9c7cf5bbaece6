use Rattle.std.proofs.Common.{◌∙◌, inl, subst, sym}
use Rattle.run_parts.specs.Commands.{HasReleased}
use Rattle.run_parts.proofs.CommandLaws.{not-failed, released-by, untold-by, whole-by}
use Rattle.panel_command.specs.PanelRun.{made_of, panel_command}
use Rattle.panel_command.proofs.PanelLaws.{panel_refused}
use Rattle.panel_command.proofs.panel_run.run_panel.Goals as goal

pub returns-in-Ok-clause-linked : goal.returns-in-Ok-clause-linked
returns-in-Ok-clause-linked g c = λ ended.
    whole-by (panel_command c.args.asked.now) _ (made_of c.args.asked.now c.in-Ok.release) c.tell.result
    (rw (c.status_of.ensures, c.deref.ensures.value) at c.tell.ensures)
    (record { files = c.in-Ok.ensures.files; calls = c.in-Ok.ensures.asked; faultless = c.in-Ok.ensures.faults })
    (not-failed c.tell.result ended)

pub returns-in-Ok-clause-stopped : goal.returns-in-Ok-clause-stopped
returns-in-Ok-clause-stopped g c = λ not.
    untold-by (panel_command c.args.asked.now) _ (made_of c.args.asked.now c.in-Ok.release) c.tell.result
    (rw (c.status_of.ensures, c.deref.ensures.value) at c.tell.ensures)
    (record { files = c.in-Ok.ensures.files; calls = c.in-Ok.ensures.asked; faultless = c.in-Ok.ensures.faults })
    (λ is. not (subst HasReleased (sym is) (released-by c.in-Ok.release.whole)))

pub returns-in-Err-clause-stopped : goal.returns-in-Err-clause-stopped
returns-in-Err-clause-stopped g c = λ not. inl (record {
  fault = c.in-Err.refusal;
  status = c.refuse.ensures.status ∙ c.status.ensures;
  kind = c.in-Err.ensures.kind;
  cause = c.in-Err.ensures.cause;
  calls = c.in-Err.ensures.asked;
  files = c.in-Err.ensures.files;
  faults = c.in-Err.ensures.faults;
  printed = rw c.line.ensures at c.refuse.ensures.printed;
})

pub returns-in-Err-clause-complete : goal.returns-in-Err-clause-complete
returns-in-Err-clause-complete g c =
    panel_refused c.args.asked.now _ c.in-Err.refusal c.refuse.result (c.refuse.ensures.status ∙ c.status.ensures)
    c.in-Err.ensures.cause c.in-Err.ensures.faults

pub returns-in-Err-clause-due : goal.returns-in-Err-clause-due
returns-in-Err-clause-due g c = rw (c.refuse.ensures.status ∙ c.status.ensures) c.in-Err.ensures.due
