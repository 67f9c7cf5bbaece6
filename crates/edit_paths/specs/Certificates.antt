use Rattle.std.specs.Prelude.{ℕ, zero, suc, ◌++◌, ◌&&◌, Bool, List, [], ◌∷◌, if◌then◌else◌}
use Rattle.std.specs.List.{list_any}
use Rattle.edit_model.specs.Corrections.{is_first}
use Rattle.bound_cert.specs.declared.cert.Leaf.{Leaf}
use Rattle.bound_cert.specs.declared.cert.LeafWhy.{LeafWhy}
use Rattle.bound_cert.specs.declared.cert.LeafWhy.TheVariants as why
use Rattle.edit_paths.specs.Cases.{SearchCase}
use Rattle.edit_paths.specs.Histories.{steps_to}
use Rattle.edit_paths.specs.PathHistories.{box_history, line_history}
use Rattle.edit_paths.specs.Paths.{field_count}
use Rattle.edit_paths.specs.ReachedPaths.{changed_next, kept_next}
use Rattle.edit_paths.specs.States.{state_of}
use Rattle.edit_paths.specs.declared.state.PathState.{PathState}
use Rattle.edit_paths.specs.declared.state.PathState.TheVariants.{ClosedBad, ClosedBox, ClosedLine, Open, Overflows}

-- whether the path is one of the paths
abbrev pub has_path : List (List Bool) → List Bool → Bool
has_path paths path = list_any (λ p. is_first p path && is_first path p) paths

-- a leaf of the tree, alone
abbrev pub leaf : List Bool → LeafWhy → List Leaf
leaf path why = record { path = path; why = why } ∷ []

-- why a closed path needs no further look, or the leaves below an open one
abbrev pub leaves_by : SearchCase → List Bool → List Leaf → PathState → List Leaf
leaves_by c path below Open = below
leaves_by c path below ClosedBad = leaf path why.BadKept
leaves_by c path below (ClosedLine i) = leaf path (why.Line (steps_to (line_history c path) i))
leaves_by c path below (ClosedBox i) = leaf path (why.Box (steps_to (box_history c path) i))
leaves_by c path below (Overflows e) = []

-- the leaves from this path on, where this many fields are left, letter by letter, of the tree of the paths that were
-- taken: a path that was not taken stands by its weight
abbrev pub leaves_from : SearchCase → List (List Bool) → ℕ → List Bool → List Leaf
leaves_from c taken zero path = if has_path taken path then leaves_by c path [] (state_of c path) else leaf path why.Bound
leaves_from c taken (suc left) path =
    if has_path taken path
    then leaves_by c path (leaves_from c taken left (kept_next path) ++ leaves_from c taken left (changed_next path)) (state_of c path)
    else leaf path why.Bound

-- the certificate, where these paths were taken before the outcome
abbrev pub certificate_of : SearchCase → List (List Bool) → List Leaf
certificate_of c taken = leaves_from c taken (field_count c) []
