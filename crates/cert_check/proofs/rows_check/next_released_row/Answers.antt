use Rattle.std.proofs.Common.{sym, subst, ℕ, ◌<◌, ◌∙◌}
use Rattle.cert_check.proofs.RowsLoop.{behind-there}
use Rattle.cert_check.proofs.rows_check.next_released_row.Goals as goal

pub returns-then-next-len : goal.returns-then-next-len
returns-then-next-len c =
    behind-there c.args.place.now c.args.released.now.row_texts c.args.next (sym c.is_released.ensures ∙ c.if-is_released.true)
    (subst (λ (n : ℕ). c.args.next < n) c.len.ensures.row_texts c.if-next-len.true)
