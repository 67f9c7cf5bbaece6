use Rattle.std.proofs.Common.{◌≡◌, drop, length}
use Rattle.derivation.specs.SharedLines.{is_failed, kept_from, shared_box}
use Rattle.proof_sharing.proofs.kept_steps.shared_box.Given as goal

abbrev pub invariant-loop-step : goal.invariant-loop-step
invariant-loop-step l =
    (kept_from l.given (is_failed l.steps) l.places l.new.items l.kept.items (drop l.step-index l.steps) ≡ shared_box l.given l.places l.steps)
    × (length l.new.items ≡ l.step-index)
