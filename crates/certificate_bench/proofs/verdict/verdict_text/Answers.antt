use Rattle.std.proofs.Common.{ap, inl, ◌∙◌}
use Rattle.certificate_bench.specs.inner.Texts.{accepted_text}
use Rattle.certificate_bench.proofs.verdict.verdict_text.Goals as goal

pub returns-in_ok-format-in-Ok : goal.returns-in_ok-format-in-Ok
returns-in_ok-format-in-Ok c = inl (c.in-Ok.ensures.valid, c.in_ok-format-in-Ok.ensures.ok ∙ ap accepted_text c.len-count.ensures)
