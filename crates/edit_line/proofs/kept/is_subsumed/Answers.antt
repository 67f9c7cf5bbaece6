use Rattle.std.proofs.Common.{arith}
use Rattle.std.proofs.lemmas.Grind.{common_steps}
use Rattle.edit_line.proofs.kept.is_subsumed.Goals as goal

pub bounds-keys-i : goal.bounds-keys-i
bounds-keys-i c = grind (arith, common_steps)

pub subsumes_keyed-requires-clause-first : goal.subsumes_keyed-requires-clause-first
subsumes_keyed-requires-clause-first c = grind (arith, common_steps)

pub returns-then-subsumes_keyed : goal.returns-then-subsumes_keyed
returns-then-subsumes_keyed c = grind (arith, common_steps)

pub loop-i-preserved : goal.loop-i-preserved
loop-i-preserved c = grind (arith, common_steps)

pub returns : goal.returns
returns c = grind (arith, common_steps)
