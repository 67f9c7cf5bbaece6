use Rattle.std.proofs.Common.{◌≡◌, ◌<◌, ℕ, false}
use Rattle.page_counts.specs.Bins.{reaches, round_width}
use Rattle.page_counts.proofs.widths.width_over.Given as goal

abbrev pub invariant-loop-step : goal.invariant-loop-step
invariant-loop-step l = (k : ℕ) → k < l.step → reaches l.fn.least l.fn.greatest l.fn.unit (round_width k) ≡ false
