use Rattle.std.proofs.Common.{arith}
use Rattle.std.proofs.lemmas.Grind.{common_steps, elements}
use Rattle.cert_check.proofs.dropped.verdict_fault.Goals as goal

pub returns-else-is_equal-clause-within : goal.returns-else-is_equal-clause-within
returns-else-is_equal-clause-within c = grind (arith, common_steps)

pub returns-then-is_equal-clause-found : goal.returns-then-is_equal-clause-found
returns-then-is_equal-clause-found c = grind (arith, elements)

pub refutation_fault-requires-clause-not_equal : goal.refutation_fault-requires-clause-not_equal
refutation_fault-requires-clause-not_equal c = grind (arith, elements)
