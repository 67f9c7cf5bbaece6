use Rattle.std.proofs.Common.{◌≡◌, map, take}
use Rattle.proof_sharing.specs.inner.Tables.{step_of}
use Rattle.proof_sharing.proofs.line_step.steps_of.Given as goal

abbrev pub invariant-loop-key : goal.invariant-loop-key
invariant-loop-key l = l.steps.items ≡ map step_of (take l.key-index l.keys)
