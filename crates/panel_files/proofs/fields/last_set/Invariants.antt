use Rattle.panel_files.specs.inner.LastBelow.{AreLastBelow}
use Rattle.panel_files.proofs.fields.last_set.Given as goal

abbrev pub invariant-loop-number : goal.invariant-loop-number
invariant-loop-number l = AreLastBelow l.field-items l.number l.set
