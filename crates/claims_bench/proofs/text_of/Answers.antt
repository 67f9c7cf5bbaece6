use Rattle.std.proofs.Common.{ap, ◌∙◌}
use Rattle.claims_bench.specs.inner.Texts.{counts_text}
use Rattle.claims_bench.proofs.text_of.Goals as goal

pub returns-clause-text : goal.returns-clause-text
returns-clause-text g c = (
  c.in_ok-tally.tally,
  c.in_ok-tally.ensures,
  c.in_ok-counts_text.ensures
      ∙ ap (counts_text c.in_ok-tally.tally.drawn) c.deref.ensures.value,
)
