use Rattle.std.proofs.Common.{arith}
use Rattle.std.proofs.lemmas.Grind.{common_steps}
use Rattle.edit_desk.proofs.page.append.Goals as goal

pub returns-then-capacity-len-clause-whole : goal.returns-then-capacity-len-clause-whole
returns-then-capacity-len-clause-whole c = grind (arith, common_steps)

pub returns-then-capacity-len-clause-items : goal.returns-then-capacity-len-clause-items
returns-then-capacity-len-clause-items c = grind (arith, common_steps)

pub loop-byte-preserved : goal.loop-byte-preserved
loop-byte-preserved c = grind (arith, common_steps)

pub returns-clause-items : goal.returns-clause-items
returns-clause-items c = grind (arith, common_steps)
