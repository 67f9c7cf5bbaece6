use Rattle.std.proofs.Common.{◌≡◌, map, slice_index_or, take}
use Rattle.proof_sharing.proofs.kept_steps.new_places.Given as goal

abbrev pub invariant-loop-part : goal.invariant-loop-part
invariant-loop-part l = l.places.items ≡ map (λ part. slice_index_or l.new part 0) (take l.part-index l.parts)
