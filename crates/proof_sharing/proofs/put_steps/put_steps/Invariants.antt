use Rattle.std.proofs.Common.{◌≡◌, drop}
use Rattle.derivation.specs.SharedLines.{tabled, tabled_from, tabled_of}
use Rattle.proof_sharing.proofs.put_steps.put_steps.Given as goal

abbrev pub invariant-loop-step : goal.invariant-loop-step
invariant-loop-step l = tabled_from (tabled_of l.table l.places.items) (drop l.step-index l.steps) ≡ tabled l.fn.table l.steps
