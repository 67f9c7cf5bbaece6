use Rattle.std.proofs.Common.{◌≡◌, ℕ, ◌<◌, false, length, slice_index_or, take}
use Rattle.std.specs.List.{list_any}
use Rattle.derivation.specs.SharedLines.{fails_at}
use Rattle.proof_sharing.proofs.kept_steps.failed_flags.Given as goal

abbrev pub invariant-loop-step : goal.invariant-loop-step
invariant-loop-step l =
    (length l.flags.items ≡ length l.steps)
    × ((i : ℕ) → i < length l.steps → slice_index_or l.flags.items i false ≡ list_any (fails_at i) (take l.step-index l.steps))
