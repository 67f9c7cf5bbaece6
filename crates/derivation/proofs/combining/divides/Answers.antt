use Rattle.std.proofs.Common.{arith}
use Rattle.std.proofs.lemmas.Grind.{common_steps}
use Rattle.derivation.proofs.combining.divides.Goals as goal

pub returns-then-are_multiples : goal.returns-then-are_multiples
returns-then-are_multiples c = grind (arith, common_steps)

pub returns-else-are_multiples : goal.returns-else-are_multiples
returns-else-are_multiples c = grind (arith, common_steps)
