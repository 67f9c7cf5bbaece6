use Rattle.std.specs.Prelude.{◌≡◌, ◌≤◌, ◌++◌, ◌-◌, ℕ, Bool, List, [], ◌∷◌, Option, if◌then◌else◌, length, map, nat_lt}
use Rattle.bound_cert.specs.declared.cert.Leaf.{Leaf}
use Rattle.edit_paths.specs.Cases.{SearchCase}
use Rattle.edit_paths.specs.Certificates.{leaves_by, leaves_from}
use Rattle.edit_paths.specs.Paths.{field_count}
use Rattle.edit_paths.specs.States.{state_of}
use Rattle.edit_paths.specs.declared.levels.Level.{Level}
use Rattle.edit_paths.specs.declared.state.PathState.{PathState}
use Rattle.path_walk.specs.Bases.{IsKnownBasis}
use Rattle.path_walk.specs.declared.looks.Basis.{Basis}
use Rattle.path_walk.specs.inner.Histories.{LeadTo}
use Rattle.localise_tree.specs.declared.best_first.Taken.{Taken}

-- what became of a path that was taken is its state, and what is kept of it is its basis
pub record IsTaken (c : SearchCase) (taken : Taken) : Type 0 where
  pub fit : length taken.path ≤ field_count c
  pub state : taken.state ≡ state_of c taken.path
  pub basis : IsKnownBasis c taken.path taken.basis

-- the path was taken last, and has this state; what is kept of it is its basis
abbrev pub HasTaken : SearchCase → List Bool → PathState → List Taken → List Taken → Type 0
HasTaken c path state before after = (basis : Option Basis) × IsKnownBasis c path basis
    × (after ≡ before ++ record { path = path; state = state; basis = basis } ∷ [])

-- the paths that were taken
abbrev pub taken_paths : List Taken → List (List Bool)
taken_paths taken = map (λ (t : Taken). t.path) taken

-- the taken paths that a certificate of a change of this weight needs: none where nothing is changed
abbrev pub taken_for : ℕ → List (List Bool) → List (List Bool)
taken_for weight taken = if nat_lt 0 weight then taken else []

-- the leaves of the tree of the taken paths, from this path on
abbrev pub leaves_below : SearchCase → List (List Bool) → List Bool → List Leaf
leaves_below c taken path = leaves_from c taken (field_count c - length path) path

-- the leaf of a closed path, by its state, is appended, where the lists lead to what closes it
abbrev pub AddsClosed : List Bool → PathState → List Level → List Leaf → List Leaf → Type 0
AddsClosed path state levels before after = (c : SearchCase) → LeadTo c path state levels → after ≡ before ++ leaves_by c path [] state
