use Rattle.std.proofs.Common.{arith}
use Rattle.std.proofs.lemmas.Grind.{common_steps}
use Rattle.cert_check.proofs.table.table_fault.Goals as goal

pub overflow_add-result : goal.overflow_add-result
overflow_add-result c = grind (arith, common_steps)

pub overflow_add-result-in-Err-Bad : goal.overflow_add-result-in-Err-Bad
overflow_add-result-in-Err-Bad c = grind (arith, common_steps)

pub returns-in_ok-put_behind-in-Ok-clause-over : goal.returns-in_ok-put_behind-in-Ok-clause-over
returns-in_ok-put_behind-in-Ok-clause-over c = grind (arith, common_steps)
