use Rattle.std.proofs.Common.{◌∙◌, inl, refl}
use Rattle.run_parts.specs.Run.{LeavesAll}
use Rattle.check_command.proofs.RunLaws.{check-refused, checked-by, unchecked-by}
use Rattle.run_parts.proofs.ToldLaws.{same-told}
use Rattle.check_command.proofs.check_run.run_check.Goals as goal

pub returns-in-Ok-clause-checked : goal.returns-in-Ok-clause-checked
returns-in-Ok-clause-checked g c = λ done.
    checked-by c.args.asked.now _ c.in-Ok.line.items c.tell.result (rw c.deref.ensures.value at c.tell.ensures) c.in-Ok.ensures.accepted
    c.in-Ok.ensures.unchanged c.in-Ok.ensures.asked c.in-Ok.ensures.faults done

pub returns-in-Ok-clause-stopped : goal.returns-in-Ok-clause-stopped
returns-in-Ok-clause-stopped g c = λ not.
    unchecked-by c.args.asked.now _ c.in-Ok.line.items c.tell.result (rw c.deref.ensures.value at c.tell.ensures) c.in-Ok.ensures.accepted
    c.in-Ok.ensures.unchanged c.in-Ok.ensures.asked c.in-Ok.ensures.faults not

pub returns-in-Err-clause-stopped : goal.returns-in-Err-clause-stopped
returns-in-Err-clause-stopped g c = λ not. inl (record {
  fault = c.in-Err.refusal;
  status = c.refuse.ensures.status ∙ c.status.ensures;
  kind = c.in-Err.ensures.kind;
  cause = c.in-Err.ensures.cause;
  calls = c.in-Err.ensures.asked;
  files = same-told (g.D.Desk.files c.args.desk.now) _ (LeavesAll c.in-Err.refusal) c.in-Err.ensures.unchanged (λ o. refl);
  faults = c.in-Err.ensures.faults;
  printed = rw c.line.ensures at c.refuse.ensures.printed;
})

pub returns-in-Err-clause-complete : goal.returns-in-Err-clause-complete
returns-in-Err-clause-complete g c =
    check-refused c.args.asked.now _ c.in-Err.refusal c.refuse.result (c.refuse.ensures.status ∙ c.status.ensures)
    c.in-Err.ensures.cause c.in-Err.ensures.faults

pub returns-in-Err-clause-due : goal.returns-in-Err-clause-due
returns-in-Err-clause-due g c = rw (c.refuse.ensures.status ∙ c.status.ensures) c.in-Err.ensures.due
