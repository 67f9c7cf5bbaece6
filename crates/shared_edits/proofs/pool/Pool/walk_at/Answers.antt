use Rattle.std.proofs.Common.{ap, inr, sym, ◌∙◌}
use Rattle.shared_edits.proofs.pool.Pool.walk_at.Goals as goal

pub returns-then-not-has_own : goal.returns-then-not-has_own
returns-then-not-has_own c =
    let e = c.entry_of.ensures in
    inr (sym c.has_own.ensures ∙ c.if-not-has_own.true, (c.entry_of.result, c.push.ensures, e.of, e.own, ap (λ t. t.index) e.token ∙ c.in-Some.ensures.1))
