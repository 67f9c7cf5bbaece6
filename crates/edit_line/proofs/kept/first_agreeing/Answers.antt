use Rattle.std.proofs.Common.{arith}
use Rattle.std.proofs.lemmas.Grind.{common_steps}
use Rattle.edit_line.proofs.kept.first_agreeing.Goals as goal

pub bounds-keys-i : goal.bounds-keys-i
bounds-keys-i c = grind (arith, common_steps)

pub may_concern-requires-clause-first : goal.may_concern-requires-clause-first
may_concern-requires-clause-first c = grind (arith, common_steps)

pub loop-i-preserved : goal.loop-i-preserved
loop-i-preserved c = grind (arith, common_steps)
