use Rattle.std.proofs.Common.{arith}
use Rattle.command_words.proofs.AskedLaws.{between}
use Rattle.command_words.proofs.make_words.make_of.Goals as goal

pub overflow_cast-result : goal.overflow_cast-result
overflow_cast-result c = let start = between _ _ _ _ _ c.in_ok-start.ensures.some (omega arith) (omega arith) in record { fits = omega (arith, start.1) }

pub overflow_cast-result-2 : goal.overflow_cast-result-2
overflow_cast-result-2 c = let rows = between _ _ _ _ _ c.in_ok-rows.ensures.some (omega arith) (omega arith) in record { fits = omega (arith, rows.1) }
