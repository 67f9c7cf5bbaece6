use Rattle.std.proofs.Common.{arith}
use Rattle.std.proofs.lemmas.Grind.{common_steps}
use Rattle.categ_combine.proofs.fixing.take_fixed.Goals as goal

pub returns-then-set-by-clause-kept : goal.returns-then-set-by-clause-kept
returns-then-set-by-clause-kept c = grind (arith, common_steps)
