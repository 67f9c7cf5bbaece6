use Rattle.std.proofs.Common.{refl}
use Rattle.run_parts.specs.Run.{Run, seen}
use Rattle.edit_commands.proofs.RunLaws.{RunsAll, runs_all, runs_none}
use Rattle.edit_commands.proofs.run.fh_main.Given as given
use Rattle.edit_commands.proofs.run.fh_main.Goals as goal

-- ---- words that could be read

module _ (g : given.Over) (c : goal.After-run_asked g) where
  -- the run of what the words ask for is that of all that they may ask for
  abbrev run-done : Run
  run-done = record {
    before = seen g.D.Desk g.P.Printer c.args.desk.now c.args.printer.now;
    after = seen g.D.Desk g.P.Printer c.run_asked.new.desk c.run_asked.new.printer;
  }

  done : RunsAll c.args.words.now c.run_asked.result run-done
  done =
      runs_all _ _ _ c.in-Ok.asked c.in-Ok.ensures c.run_asked.ensures.usage c.run_asked.ensures.run

pub returns-in-Ok-clause-usage : goal.returns-in-Ok-clause-usage
returns-in-Ok-clause-usage g c = (done g c).usage

pub returns-in-Ok-clause-unasked : goal.returns-in-Ok-clause-unasked
returns-in-Ok-clause-unasked g c = (done g c).none

pub returns-in-Ok-clause-edited : goal.returns-in-Ok-clause-edited
returns-in-Ok-clause-edited g c = λ ended asked is. ((done g c).edit asked is).whole ended

pub returns-in-Ok-clause-edit_stopped : goal.returns-in-Ok-clause-edit_stopped
returns-in-Ok-clause-edit_stopped g c = λ not asked is. ((done g c).edit asked is).stopped not

pub returns-in-Ok-clause-edit_complete : goal.returns-in-Ok-clause-edit_complete
returns-in-Ok-clause-edit_complete g c = λ asked is. ((done g c).edit asked is).complete

pub returns-in-Ok-clause-edit_due : goal.returns-in-Ok-clause-edit_due
returns-in-Ok-clause-edit_due g c = λ asked is. ((done g c).edit asked is).due

pub returns-in-Ok-clause-classed : goal.returns-in-Ok-clause-classed
returns-in-Ok-clause-classed g c = λ ended asked is. ((done g c).classed asked is).whole ended

pub returns-in-Ok-clause-classed_stopped : goal.returns-in-Ok-clause-classed_stopped
returns-in-Ok-clause-classed_stopped g c = λ not asked is. ((done g c).classed asked is).stopped not

pub returns-in-Ok-clause-classed_complete : goal.returns-in-Ok-clause-classed_complete
returns-in-Ok-clause-classed_complete g c = λ asked is. ((done g c).classed asked is).complete

pub returns-in-Ok-clause-classed_due : goal.returns-in-Ok-clause-classed_due
returns-in-Ok-clause-classed_due g c = λ asked is. ((done g c).classed asked is).due

pub returns-in-Ok-clause-checked : goal.returns-in-Ok-clause-checked
returns-in-Ok-clause-checked g c = λ ended asked is. ((done g c).check asked is).whole ended

pub returns-in-Ok-clause-check_stopped : goal.returns-in-Ok-clause-check_stopped
returns-in-Ok-clause-check_stopped g c = λ not asked is. ((done g c).check asked is).stopped not

pub returns-in-Ok-clause-check_complete : goal.returns-in-Ok-clause-check_complete
returns-in-Ok-clause-check_complete g c = λ asked is. ((done g c).check asked is).complete

pub returns-in-Ok-clause-check_due : goal.returns-in-Ok-clause-check_due
returns-in-Ok-clause-check_due g c = λ asked is. ((done g c).check asked is).due

pub returns-in-Ok-clause-ruled : goal.returns-in-Ok-clause-ruled
returns-in-Ok-clause-ruled g c = λ ended asked is. ((done g c).rules asked is).whole ended

pub returns-in-Ok-clause-rules_stopped : goal.returns-in-Ok-clause-rules_stopped
returns-in-Ok-clause-rules_stopped g c = λ not asked is. ((done g c).rules asked is).stopped not

pub returns-in-Ok-clause-rules_complete : goal.returns-in-Ok-clause-rules_complete
returns-in-Ok-clause-rules_complete g c = λ asked is. ((done g c).rules asked is).complete

pub returns-in-Ok-clause-rules_due : goal.returns-in-Ok-clause-rules_due
returns-in-Ok-clause-rules_due g c = λ asked is. ((done g c).rules asked is).due

pub returns-in-Ok-clause-filled : goal.returns-in-Ok-clause-filled
returns-in-Ok-clause-filled g c = λ ended asked is. ((done g c).fill asked is).whole ended

pub returns-in-Ok-clause-fill_stopped : goal.returns-in-Ok-clause-fill_stopped
returns-in-Ok-clause-fill_stopped g c = λ not asked is. ((done g c).fill asked is).stopped not

pub returns-in-Ok-clause-fill_complete : goal.returns-in-Ok-clause-fill_complete
returns-in-Ok-clause-fill_complete g c = λ asked is. ((done g c).fill asked is).complete

pub returns-in-Ok-clause-fill_due : goal.returns-in-Ok-clause-fill_due
returns-in-Ok-clause-fill_due g c = λ asked is. ((done g c).fill asked is).due

pub returns-in-Ok-clause-linked : goal.returns-in-Ok-clause-linked
returns-in-Ok-clause-linked g c = λ ended asked is. ((done g c).panel asked is).whole ended

pub returns-in-Ok-clause-panel_stopped : goal.returns-in-Ok-clause-panel_stopped
returns-in-Ok-clause-panel_stopped g c = λ not asked is. ((done g c).panel asked is).stopped not

pub returns-in-Ok-clause-panel_complete : goal.returns-in-Ok-clause-panel_complete
returns-in-Ok-clause-panel_complete g c = λ asked is. ((done g c).panel asked is).complete

pub returns-in-Ok-clause-panel_due : goal.returns-in-Ok-clause-panel_due
returns-in-Ok-clause-panel_due g c = λ asked is. ((done g c).panel asked is).due

pub returns-in-Ok-clause-made : goal.returns-in-Ok-clause-made
returns-in-Ok-clause-made g c = λ ended asked is. ((done g c).make asked is).whole ended

pub returns-in-Ok-clause-make_stopped : goal.returns-in-Ok-clause-make_stopped
returns-in-Ok-clause-make_stopped g c = λ not asked is. ((done g c).make asked is).stopped not

pub returns-in-Ok-clause-make_complete : goal.returns-in-Ok-clause-make_complete
returns-in-Ok-clause-make_complete g c = λ asked is. ((done g c).make asked is).complete

-- ---- words for which there was no memory

module _ (g : given.Over) (c : goal.After-refuse g) where
  -- nothing was asked of the desk
  abbrev run-untouched : Run
  run-untouched = record {
    before = seen g.D.Desk g.P.Printer c.args.desk.now c.args.printer.now;
    after = seen g.D.Desk g.P.Printer c.args.desk.now c.refuse.new.printer;
  }

  untouched : RunsAll c.args.words.now c.refuse.result run-untouched
  untouched =
      runs_none _ _ _ (record { files = refl; calls = refl; faults = refl }) c.refuse.ensures.printed c.refuse.ensures.status

pub returns-in-Err-clause-usage : goal.returns-in-Err-clause-usage
returns-in-Err-clause-usage g c = (untouched g c).usage

pub returns-in-Err-clause-unasked : goal.returns-in-Err-clause-unasked
returns-in-Err-clause-unasked g c = (untouched g c).none

pub returns-in-Err-clause-edited : goal.returns-in-Err-clause-edited
returns-in-Err-clause-edited g c = λ ended asked is. ((untouched g c).edit asked is).whole ended

pub returns-in-Err-clause-edit_stopped : goal.returns-in-Err-clause-edit_stopped
returns-in-Err-clause-edit_stopped g c = λ not asked is. ((untouched g c).edit asked is).stopped not

pub returns-in-Err-clause-edit_complete : goal.returns-in-Err-clause-edit_complete
returns-in-Err-clause-edit_complete g c = λ asked is. ((untouched g c).edit asked is).complete

pub returns-in-Err-clause-edit_due : goal.returns-in-Err-clause-edit_due
returns-in-Err-clause-edit_due g c = λ asked is. ((untouched g c).edit asked is).due

pub returns-in-Err-clause-classed : goal.returns-in-Err-clause-classed
returns-in-Err-clause-classed g c = λ ended asked is. ((untouched g c).classed asked is).whole ended

pub returns-in-Err-clause-classed_stopped : goal.returns-in-Err-clause-classed_stopped
returns-in-Err-clause-classed_stopped g c = λ not asked is. ((untouched g c).classed asked is).stopped not

pub returns-in-Err-clause-classed_complete : goal.returns-in-Err-clause-classed_complete
returns-in-Err-clause-classed_complete g c = λ asked is. ((untouched g c).classed asked is).complete

pub returns-in-Err-clause-classed_due : goal.returns-in-Err-clause-classed_due
returns-in-Err-clause-classed_due g c = λ asked is. ((untouched g c).classed asked is).due

pub returns-in-Err-clause-checked : goal.returns-in-Err-clause-checked
returns-in-Err-clause-checked g c = λ ended asked is. ((untouched g c).check asked is).whole ended

pub returns-in-Err-clause-check_stopped : goal.returns-in-Err-clause-check_stopped
returns-in-Err-clause-check_stopped g c = λ not asked is. ((untouched g c).check asked is).stopped not

pub returns-in-Err-clause-check_complete : goal.returns-in-Err-clause-check_complete
returns-in-Err-clause-check_complete g c = λ asked is. ((untouched g c).check asked is).complete

pub returns-in-Err-clause-check_due : goal.returns-in-Err-clause-check_due
returns-in-Err-clause-check_due g c = λ asked is. ((untouched g c).check asked is).due

pub returns-in-Err-clause-ruled : goal.returns-in-Err-clause-ruled
returns-in-Err-clause-ruled g c = λ ended asked is. ((untouched g c).rules asked is).whole ended

pub returns-in-Err-clause-rules_stopped : goal.returns-in-Err-clause-rules_stopped
returns-in-Err-clause-rules_stopped g c = λ not asked is. ((untouched g c).rules asked is).stopped not

pub returns-in-Err-clause-rules_complete : goal.returns-in-Err-clause-rules_complete
returns-in-Err-clause-rules_complete g c = λ asked is. ((untouched g c).rules asked is).complete

pub returns-in-Err-clause-rules_due : goal.returns-in-Err-clause-rules_due
returns-in-Err-clause-rules_due g c = λ asked is. ((untouched g c).rules asked is).due

pub returns-in-Err-clause-filled : goal.returns-in-Err-clause-filled
returns-in-Err-clause-filled g c = λ ended asked is. ((untouched g c).fill asked is).whole ended

pub returns-in-Err-clause-fill_stopped : goal.returns-in-Err-clause-fill_stopped
returns-in-Err-clause-fill_stopped g c = λ not asked is. ((untouched g c).fill asked is).stopped not

pub returns-in-Err-clause-fill_complete : goal.returns-in-Err-clause-fill_complete
returns-in-Err-clause-fill_complete g c = λ asked is. ((untouched g c).fill asked is).complete

pub returns-in-Err-clause-fill_due : goal.returns-in-Err-clause-fill_due
returns-in-Err-clause-fill_due g c = λ asked is. ((untouched g c).fill asked is).due

pub returns-in-Err-clause-linked : goal.returns-in-Err-clause-linked
returns-in-Err-clause-linked g c = λ ended asked is. ((untouched g c).panel asked is).whole ended

pub returns-in-Err-clause-panel_stopped : goal.returns-in-Err-clause-panel_stopped
returns-in-Err-clause-panel_stopped g c = λ not asked is. ((untouched g c).panel asked is).stopped not

pub returns-in-Err-clause-panel_complete : goal.returns-in-Err-clause-panel_complete
returns-in-Err-clause-panel_complete g c = λ asked is. ((untouched g c).panel asked is).complete

pub returns-in-Err-clause-panel_due : goal.returns-in-Err-clause-panel_due
returns-in-Err-clause-panel_due g c = λ asked is. ((untouched g c).panel asked is).due

pub returns-in-Err-clause-made : goal.returns-in-Err-clause-made
returns-in-Err-clause-made g c = λ ended asked is. ((untouched g c).make asked is).whole ended

pub returns-in-Err-clause-make_stopped : goal.returns-in-Err-clause-make_stopped
returns-in-Err-clause-make_stopped g c = λ not asked is. ((untouched g c).make asked is).stopped not

pub returns-in-Err-clause-make_complete : goal.returns-in-Err-clause-make_complete
returns-in-Err-clause-make_complete g c = λ asked is. ((untouched g c).make asked is).complete
