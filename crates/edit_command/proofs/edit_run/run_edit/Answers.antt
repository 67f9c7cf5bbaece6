use Rattle.edit_command.proofs.RunLaws.{edit-complete}
use Rattle.edit_command.proofs.edit_run.run_edit.Goals as goal

pub returns-clause-complete : goal.returns-clause-complete
returns-clause-complete g c = edit-complete c.args.asked.now c.run_either.result _ c.run_either.ensures.complete
