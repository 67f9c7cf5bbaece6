use Rattle.std.proofs.Common.{◌≡◌, [], drop, map}
use Rattle.derivation.specs.inner.Bases.{premises}
use Rattle.derivation.specs.inner.Meanings.{meaning}
use Rattle.derivation.specs.ValidSteps.{proved_from}
use Rattle.derivation.proofs.Soundness.{AllKnown}
use Rattle.derivation.proofs.check.known_of.Given as goal

abbrev pub invariant-loop-step : goal.invariant-loop-step
invariant-loop-step l =
    (proved_from (premises l.basis) (map meaning l.known.items) (drop l.step-index l.steps) ≡ proved_from (premises l.basis) [] l.steps)
    × AllKnown (premises l.basis) (map meaning l.known.items)
