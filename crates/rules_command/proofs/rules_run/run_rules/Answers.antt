use Rattle.std.proofs.Common.{◌∙◌, inl, refl}
use Rattle.run_parts.specs.Run.{LeavesAll}
use Rattle.run_parts.specs.Parts.{texts_in}
use Rattle.rules_command.proofs.RunLaws.{ruled-by, rules-refused, unruled-by}
use Rattle.run_parts.proofs.ToldLaws.{same-told}
use Rattle.rules_command.proofs.rules_run.run_rules.Goals as goal

pub returns-in-Ok-clause-ruled : goal.returns-in-Ok-clause-ruled
returns-in-Ok-clause-ruled g c = λ done.
    ruled-by c.args.asked.now _ (texts_in c.in-Ok.lines.items) c.tell_all.result (rw c.deref.ensures.value at c.tell_all.ensures) c.in-Ok.ensures.reported
    c.in-Ok.ensures.unchanged c.in-Ok.ensures.asked c.in-Ok.ensures.faults done

pub returns-in-Ok-clause-stopped : goal.returns-in-Ok-clause-stopped
returns-in-Ok-clause-stopped g c = λ not.
    unruled-by c.args.asked.now _ (texts_in c.in-Ok.lines.items) c.tell_all.result (rw c.deref.ensures.value at c.tell_all.ensures) c.in-Ok.ensures.reported
    c.in-Ok.ensures.unchanged c.in-Ok.ensures.asked c.in-Ok.ensures.faults not

pub returns-in-Err-clause-stopped : goal.returns-in-Err-clause-stopped
returns-in-Err-clause-stopped g c = λ not. inl (record {
  fault = c.in-Err.refusal;
  status = c.refuse.ensures.status ∙ c.status.ensures;
  kind = c.in-Err.ensures.kind;
  cause = c.in-Err.ensures.cause;
  calls = c.in-Err.ensures.asked;
  files = same-told (g.D.Desk.files c.args.desk.now) _ (LeavesAll c.in-Err.refusal) c.in-Err.ensures.unchanged (λ o. refl);
  faults = c.in-Err.ensures.faults;
  printed = rw c.line.ensures at c.refuse.ensures.printed;
})

pub returns-in-Err-clause-complete : goal.returns-in-Err-clause-complete
returns-in-Err-clause-complete g c =
    rules-refused c.args.asked.now _ c.in-Err.refusal c.refuse.result (c.refuse.ensures.status ∙ c.status.ensures)
    c.in-Err.ensures.cause c.in-Err.ensures.faults
