use Rattle.std.proofs.Common.{rules, arith}
use Rattle.command_words.proofs.AskedLaws.{between}
use Rattle.command_words.proofs.panel_words.panel_of.Goals as goal

pub invariant_of-result : goal.invariant_of-result
invariant_of-result c =
    let budget = between _ _ _ _ _ c.in_ok-budget.ensures.some (omega arith) (omega arith) in
    (search rules, budget.0, budget.1)
