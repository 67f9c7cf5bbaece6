use Rattle.std.proofs.Common.{◌∙◌, inl}
use Rattle.make_command.proofs.MakeLaws.{made-by, make-refused, unmade-by}
use Rattle.make_command.proofs.make_run.run_make.Goals as goal

pub returns-in-Ok-clause-made : goal.returns-in-Ok-clause-made
returns-in-Ok-clause-made g c = λ done.
    made-by c.args.asked.now _ c.tell.result (rw (c.deref.ensures.value, c.in-Ok.ensures.line) at c.tell.ensures)
    c.in-Ok.ensures.files c.in-Ok.ensures.asked c.in-Ok.ensures.faults done

pub returns-in-Ok-clause-stopped : goal.returns-in-Ok-clause-stopped
returns-in-Ok-clause-stopped g c = λ not.
    unmade-by c.args.asked.now _ c.tell.result (rw (c.deref.ensures.value, c.in-Ok.ensures.line) at c.tell.ensures)
    c.in-Ok.ensures.files c.in-Ok.ensures.asked c.in-Ok.ensures.faults not

pub returns-in-Err-clause-stopped : goal.returns-in-Err-clause-stopped
returns-in-Err-clause-stopped g c = λ not. inl (record {
  fault = c.in-Err.refusal;
  status = c.refuse.ensures.status ∙ c.status.ensures;
  kind = c.in-Err.ensures.kind;
  cause = tt;
  calls = c.in-Err.ensures.asked;
  files = c.in-Err.ensures.files;
  faults = c.in-Err.ensures.faults;
  printed = rw c.line.ensures at c.refuse.ensures.printed;
})

pub returns-in-Err-clause-complete : goal.returns-in-Err-clause-complete
returns-in-Err-clause-complete g c =
    make-refused c.in-Err.refusal c.refuse.result _ (c.refuse.ensures.status ∙ c.status.ensures) c.in-Err.ensures.kind c.in-Err.ensures.faults
