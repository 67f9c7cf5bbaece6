use Rattle.std.specs.Prelude.{ℕ, ◌+◌, Bool, List, [], ◌∷◌, if◌then◌else◌, map, nat_lt}
use Rattle.derivation.specs.declared.step.Step.{Step}
use Rattle.edit_paths.specs.Cases.{SearchCase}
use Rattle.edit_paths.specs.Histories.{steps_to}
use Rattle.edit_paths.specs.PathHistories.{box_history, line_history}
use Rattle.edit_paths.specs.States.{state_of}
use Rattle.edit_paths.specs.Works.{work_of}
use Rattle.edit_paths.specs.declared.state.PathState.{PathState}
use Rattle.edit_paths.specs.declared.state.PathState.TheVariants.{ClosedBad, ClosedBox, ClosedLine, Open, Overflows}
use Rattle.prefix_walk.specs.declared.walk_end.WalkEnd.{WalkEnd}
use Rattle.prefix_walk.specs.declared.walk_end.WalkEnd.TheVariants as walk

-- A walk along one path takes the paths that it extends, from the empty one on, and at last the path itself.

-- the paths that a path extends, the shortest first, and the path
abbrev pub prefixes : List Bool → List (List Bool)
prefixes [] = [] ∷ []
prefixes (letter ∷ path) = [] ∷ map (λ (prefix : List Bool). letter ∷ prefix) (prefixes path)

-- the steps that close a path of this state, none where it keeps a field without a value
abbrev pub closing_steps : SearchCase → List Bool → PathState → List Step
closing_steps c path (ClosedLine i) = steps_to (line_history c path) i
closing_steps c path (ClosedBox i) = steps_to (box_history c path) i
closing_steps c path _ = []

-- where the walk ends at a path of this state, after this work with it; from an open path it goes on
abbrev pub ended_by : SearchCase → List Bool → ℕ → WalkEnd → PathState → WalkEnd
ended_by c path work next Open = next
ended_by c path work next (Overflows event) = walk.Overflow
ended_by c path work next ClosedBad = walk.Closed [] work
ended_by c path work next (ClosedLine i) = walk.Closed (closing_steps c path (ClosedLine i)) work
ended_by c path work next (ClosedBox i) = walk.Closed (closing_steps c path (ClosedBox i)) work

-- the paths are taken in order, after the work that was spent: the first with which the work passes the budget, which is
-- closed, or for which a number leaves the range ends the walk
abbrev pub walk_through : SearchCase → ℕ → ℕ → List (List Bool) → WalkEnd
walk_through c budget spent [] = walk.Open spent
walk_through c budget spent (path ∷ paths) =
    let work = spent + work_of c path in
    if nat_lt budget work then walk.Budget spent else ended_by c path work (walk_through c budget work paths) (state_of c path)

-- the walk along the path, after the work that was spent
abbrev pub walk_along : SearchCase → List Bool → ℕ → ℕ → WalkEnd
walk_along c path budget spent = walk_through c budget spent (prefixes path)
