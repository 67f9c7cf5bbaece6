use Rattle.std.specs.Prelude.{◌≡◌, ℕ, Bool, true, List, Option, Some, None}
use Rattle.edit_paths.specs.Cases.{SearchCase}
use Rattle.edit_paths.specs.States.{state_of}
use Rattle.edit_paths.specs.declared.levels.Level.{Level}
use Rattle.edit_paths.specs.declared.state.PathState.{PathState}
use Rattle.edit_paths.specs.declared.state.PathState.TheVariants.{Open}
use Rattle.path_walk.specs.Bases.{has_basis}
use Rattle.path_walk.specs.Lists.{HasLists}
use Rattle.prefix_walk.specs.PathWalks.{ended_by}
use Rattle.prefix_walk.specs.declared.walk_end.WalkEnd.{WalkEnd}

-- the end, if one is told, is the walk's at a path of this state; if none is, the path has a basis
abbrev pub TellsStop : PathState → ℕ → Option WalkEnd → Type 0
TellsStop state work (Some end) = (c : SearchCase) (path : List Bool) (next : WalkEnd) → ended_by c path work next state ≡ end
TellsStop state work None = has_basis state ≡ true

-- the end, if one is told, is the walk's at a path of this state, to which the lists lead; if none is, the path is open
abbrev pub TellsClosed : PathState → List Level → ℕ → Option WalkEnd → Type 0
TellsClosed state levels work (Some end) =
    (c : SearchCase) (path : List Bool) (next : WalkEnd)
    → state_of c path ≡ state → HasLists c path levels → ended_by c path work next state ≡ end
TellsClosed state levels work None = state ≡ Open
