use Rattle.std.proofs.Common.{refl}
use Rattle.run_parts.specs.Run.{word_refusals}
use Rattle.run_parts.specs.declared.fault.Fault.TheVariants as fault
use Rattle.run_parts.proofs.WordLaws.{untouched-refused}
use Rattle.edit_commands.proofs.run.run_asked.Goals as goal

pub returns-in-Edit-clause-usage : goal.returns-in-Edit-clause-usage
returns-in-Edit-clause-usage g c = rw c.in-Edit.is c.run_edit.ensures.command

pub returns-in-Edit-clause-run : goal.returns-in-Edit-clause-run
returns-in-Edit-clause-run g c =
    rw c.in-Edit.is (record {
      whole = c.run_edit.ensures.edited;
      stopped = c.run_edit.ensures.stopped;
      complete = c.run_edit.ensures.complete;
      due = c.run_edit.ensures.due;
    })

pub returns-in-Classed-clause-usage : goal.returns-in-Classed-clause-usage
returns-in-Classed-clause-usage g c = rw c.in-Classed.is c.run_classed.ensures.command

pub returns-in-Classed-clause-run : goal.returns-in-Classed-clause-run
returns-in-Classed-clause-run g c =
    rw c.in-Classed.is (record {
      whole = c.run_classed.ensures.classed;
      stopped = c.run_classed.ensures.stopped;
      complete = c.run_classed.ensures.complete;
      due = c.run_classed.ensures.due;
    })

pub returns-in-Check-clause-usage : goal.returns-in-Check-clause-usage
returns-in-Check-clause-usage g c = rw c.in-Check.is c.run_check.ensures.command

pub returns-in-Check-clause-run : goal.returns-in-Check-clause-run
returns-in-Check-clause-run g c =
    rw c.in-Check.is (record {
      whole = c.run_check.ensures.checked;
      stopped = c.run_check.ensures.stopped;
      complete = c.run_check.ensures.complete;
      due = c.run_check.ensures.due;
    })

pub returns-in-Rules-clause-usage : goal.returns-in-Rules-clause-usage
returns-in-Rules-clause-usage g c = rw c.in-Rules.is c.run_rules.ensures.command

pub returns-in-Rules-clause-run : goal.returns-in-Rules-clause-run
returns-in-Rules-clause-run g c =
    rw c.in-Rules.is (record {
      whole = c.run_rules.ensures.ruled;
      stopped = c.run_rules.ensures.stopped;
      complete = c.run_rules.ensures.complete;
      due = c.run_rules.ensures.due;
    })

pub returns-in-Fill-clause-usage : goal.returns-in-Fill-clause-usage
returns-in-Fill-clause-usage g c = rw c.in-Fill.is c.run_fill.ensures.command

pub returns-in-Fill-clause-run : goal.returns-in-Fill-clause-run
returns-in-Fill-clause-run g c =
    rw c.in-Fill.is (record {
      whole = c.run_fill.ensures.filled;
      stopped = c.run_fill.ensures.stopped;
      complete = c.run_fill.ensures.complete;
      due = c.run_fill.ensures.due;
    })

pub returns-in-Panel-clause-usage : goal.returns-in-Panel-clause-usage
returns-in-Panel-clause-usage g c = rw c.in-Panel.is c.run_panel.ensures.command

pub returns-in-Panel-clause-run : goal.returns-in-Panel-clause-run
returns-in-Panel-clause-run g c =
    rw c.in-Panel.is (record {
      whole = c.run_panel.ensures.linked;
      stopped = c.run_panel.ensures.stopped;
      complete = c.run_panel.ensures.complete;
      due = c.run_panel.ensures.due;
    })

pub returns-in-Make-clause-usage : goal.returns-in-Make-clause-usage
returns-in-Make-clause-usage g c = rw c.in-Make.is c.run_make.ensures.command

pub returns-in-Make-clause-run : goal.returns-in-Make-clause-run
returns-in-Make-clause-run g c =
    rw c.in-Make.is (record {
      whole = c.run_make.ensures.made;
      stopped = c.run_make.ensures.stopped;
      complete = c.run_make.ensures.complete;
      due = tt;
    })

pub returns-in-Nothing-clause-usage : goal.returns-in-Nothing-clause-usage
returns-in-Nothing-clause-usage g c = rw c.in-Nothing.is c.refuse.ensures.status

pub returns-in-Nothing-clause-run : goal.returns-in-Nothing-clause-run
returns-in-Nothing-clause-run g c = rw c.in-Nothing.is
    (untouched-refused word_refusals fault.Usage c.refuse.result _ (record { files = refl; calls = refl; faults = refl })
    c.refuse.ensures.printed c.refuse.ensures.status tt (λ files. tt) refl (λ files. refl) (λ count. refl))
