use Rattle.std.proofs.Common.{take}
use Rattle.localise_tree.specs.inner.Knowns.{ArePlaces}
use Rattle.localise_tree.specs.inner.Takens.{taken_paths}
use Rattle.localise_tree.proofs.known.places_of.Given as goal

abbrev pub invariant-loop-place : goal.invariant-loop-place
invariant-loop-place l = ArePlaces (taken_paths (take l.place l.taken)) l.places
