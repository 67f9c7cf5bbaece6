use Rattle.std.specs.Prelude.{ℕ, zero, suc, ◌&&◌, not, Bool, List, [], ◌∷◌, if◌then◌else◌}
use Rattle.std.specs.List.{fold}
use Rattle.edit_paths.specs.Cases.{SearchCase}
use Rattle.edit_paths.specs.PathStates.{is_open}
use Rattle.edit_paths.specs.Paths.{is_complete}
use Rattle.edit_paths.specs.ReachedPaths.{changed_next, is_before, kept_next, placed}
use Rattle.edit_paths.specs.States.{state_of}

-- the paths that an open path leads on to: its next field is kept, or changed
abbrev pub next_paths : SearchCase → List Bool → List (List Bool)
next_paths c path = if is_open (state_of c path) && not (is_complete c path) then kept_next path ∷ changed_next path ∷ [] else []

-- the ends after the path is taken: the other ends, and the paths that it leads on to, in order
abbrev pub ends_after : SearchCase → List Bool → List (List Bool) → List (List Bool)
ends_after c path ends = fold (placed (is_before c.survey.fields)) ends (next_paths c path)

-- a best-first walk from the ends on, for at most this many paths: the first end is taken, and the paths that it leads
-- on to are new ends
abbrev pub walk : SearchCase → ℕ → List (List Bool) → List (List Bool)
walk c zero ends = []
walk c (suc more) [] = []
walk c (suc more) (path ∷ ends) = path ∷ walk c more (ends_after c path ends)
