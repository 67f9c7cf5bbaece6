use Rattle.std.proofs.Common.{rules, arith}
use Rattle.command_words.proofs.AskedLaws.{between}
use Rattle.command_words.proofs.edit_words.edit_of.Goals as goal

pub invariant_of-result : goal.invariant_of-result
invariant_of-result c =
    let workers = between _ _ _ _ _ c.in_ok-workers.ensures.some (omega arith) (omega arith) in
    let budget = between _ _ _ _ _ c.in_ok-budget.ensures.some (omega arith) (omega arith) in
    let limit = between _ _ _ _ _ c.in_ok-limit.ensures.some (omega arith) (omega arith) in
    let near = between _ _ _ _ _ c.in_ok-near.ensures.some (omega arith) (omega arith) in
    (search rules, (workers.0, workers.1, budget.0, budget.1, limit.0, limit.1, near.0, near.1))

pub overflow_cast-result : goal.overflow_cast-result
overflow_cast-result c = let workers = between _ _ _ _ _ c.in_ok-workers.ensures.some (omega arith) (omega arith) in record { fits = omega (arith, workers.1) }

pub overflow_cast-result-2 : goal.overflow_cast-result-2
overflow_cast-result-2 c = let limit = between _ _ _ _ _ c.in_ok-limit.ensures.some (omega arith) (omega arith) in record { fits = omega (arith, limit.1) }

pub overflow_cast-result-3 : goal.overflow_cast-result-3
overflow_cast-result-3 c = let near = between _ _ _ _ _ c.in_ok-near.ensures.some (omega arith) (omega arith) in record { fits = omega (arith, near.1) }
