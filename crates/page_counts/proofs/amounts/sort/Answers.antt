use Rattle.std.proofs.Common.{rules}
use Rattle.std.specs.Ordering.{is_lt}
use Rattle.std.proofs.lemmas.List.Sorted.{answers_always}
use Rattle.page_counts.specs.Amounts.{amount_order}
use Rattle.page_counts.specs.declared.amounts.Amount.{Amount}
use Rattle.page_counts.proofs.AmountLaws.{amounts_rank}
use Rattle.page_counts.proofs.amounts.sort.Goals as goal

pub returns-clause-order : goal.returns-clause-order
returns-clause-order c = c.sort_unstable_by.ensures.sorted (λ (a b : Amount). is_lt (amount_order a b)) amounts_rank (answers_always _ _ _
    (λ f a r g h. search rules))
