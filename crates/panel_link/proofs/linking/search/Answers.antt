use Rattle.std.proofs.Common.{sym, ◌∙◌}
use Rattle.panel_link.proofs.linking.search.Goals as goal

pub with_values-requires-clause-found : goal.with_values-requires-clause-found
with_values-requires-clause-found g c = (c.args.budget, c.ranges.budget.fits, sym c.in_ok-outcome.ensures.exact ∙ c.in-Change.is)
