use Rattle.command_words.proofs.AskedLaws.{classed_of}
use Rattle.edit_command.proofs.RunLaws.{classed-complete}
use Rattle.edit_command.proofs.edit_run.run_classed.Goals as goal

pub returns-clause-stopped : goal.returns-clause-stopped
returns-clause-stopped g c = λ not. rw (← c.asked.view_is) (c.run_either.ensures.stopped not)

pub returns-clause-complete : goal.returns-clause-complete
returns-clause-complete g c =
    rw (← c.asked.view_is) (classed-complete (classed_of c.asked.inside.edit c.asked.inside.class.now) c.run_either.result _ c.run_either.ensures.complete)

pub returns-clause-due : goal.returns-clause-due
returns-clause-due g c = rw (← c.asked.view_is) c.run_either.ensures.due
