use Rattle.edit_line.specs.inner.Keys.{NoneOver, NoneUnder}
use Rattle.edit_line.proofs.kept.first_agreeing.Given as goal

abbrev pub invariant-loop-i : goal.invariant-loop-i
invariant-loop-i l = NoneOver l.i l.line l.lines × NoneUnder l.i l.line l.lines
