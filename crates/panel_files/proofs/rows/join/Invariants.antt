use Rattle.panel_files.specs.inner.Joining.{AreJoinedTo}
use Rattle.panel_files.proofs.rows.join.Given as goal

abbrev pub invariant-loop-number : goal.invariant-loop-number
invariant-loop-number g l = AreJoinedTo l.fields l.set l.own l.last l.number l.taken l.both.items
