use Rattle.std.proofs.Common.{ap, sym, ◌∙◌}
use Rattle.elimination_bench.specs.inner.Listings.{verdict_text}
use Rattle.elimination_bench.proofs.listing.steps_text.Goals as goal

pub returns-in_ok-format-in-None : goal.returns-in_ok-format-in-None
returns-in_ok-format-in-None c = c.in_ok-format-in-None.ensures.ok ∙ ap (verdict_text c.args.count) (sym c.in-None.is ∙ c.in_ok-first_refused.ensures)

pub returns-in_ok-format-in-Some : goal.returns-in_ok-format-in-Some
returns-in_ok-format-in-Some c = c.in_ok-format-in-Some.ensures.ok ∙ ap (verdict_text c.args.count) (sym c.in-Some.is ∙ c.in_ok-first_refused.ensures)
