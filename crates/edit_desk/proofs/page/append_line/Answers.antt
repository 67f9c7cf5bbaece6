use Rattle.std.proofs.Common.{arith}
use Rattle.std.proofs.lemmas.Grind.{common_steps}
use Rattle.edit_desk.proofs.page.append_line.Goals as goal

pub returns-then-append-clause-whole : goal.returns-then-append-clause-whole
returns-then-append-clause-whole c = grind (arith, common_steps)

pub returns-then-append-clause-items : goal.returns-then-append-clause-items
returns-then-append-clause-items c = grind (arith, common_steps)

pub returns-else-append-clause-whole : goal.returns-else-append-clause-whole
returns-else-append-clause-whole c = grind (arith, common_steps)

pub returns-else-append-clause-items : goal.returns-else-append-clause-items
returns-else-append-clause-items c = grind (arith, common_steps)
