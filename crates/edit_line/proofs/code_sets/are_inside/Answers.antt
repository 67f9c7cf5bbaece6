use Rattle.std.proofs.Common.{sym, arith}
use Rattle.edit_line.proofs.SetLaws.{all_inside-fewer}
use Rattle.std.proofs.lemmas.Grind.{common_steps}
use Rattle.edit_line.proofs.code_sets.are_inside.Goals as goal

pub returns-then-first-second : goal.returns-then-first-second
returns-then-first-second c = sym (all_inside-fewer c.args.first.now c.args.second.now c.if-first-second.true)

pub returns-then-first-i : goal.returns-then-first-i
returns-then-first-i c = grind (arith, common_steps)

pub loop-i-preserved : goal.loop-i-preserved
loop-i-preserved c = grind (arith, common_steps)

pub returns : goal.returns
returns c = grind (arith, common_steps)
