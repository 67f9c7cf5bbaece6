use Rattle.panel_release.specs.inner.Tellings.{TellsTo}
use Rattle.panel_release.proofs.release.tell_rows.Given as goal

abbrev pub invariant-loop-row_no : goal.invariant-loop-row_no
invariant-loop-row_no l = TellsTo l.panel l.budget l.row_no l.told
