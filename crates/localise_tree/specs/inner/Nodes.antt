use Rattle.std.specs.Prelude.{◌≡◌, ◌*◌, ◌<◌, ◌≤◌, ◌==◌, ◌&&◌, ◌||◌, ℕ, Bool, List, [], ◌∷◌, length, map, nat_lt, slice_index_or}
use Rattle.std.specs.Arc.{arc_value}
use Rattle.std.specs.List.{AllByRecursion}
use Rattle.edit_model.specs.Corrections.{is_first, path_order}
use Rattle.edit_model.specs.Words.{weight_at}
use Rattle.edit_model.specs.declared.field.Field.{Field}
use Rattle.linear_elim.specs.declared.held.Held.{Held}
use Rattle.bound_cert.specs.Paths.{path_weight}
use Rattle.edit_paths.specs.Cases.{SearchCase}
use Rattle.edit_paths.specs.Paths.{before_last, field_count}
use Rattle.edit_paths.specs.States.{IsOpen}
use Rattle.edit_paths.specs.declared.state.PathState.{PathState}
use Rattle.edit_paths.specs.declared.state.PathState.TheVariants.{Open}
use Rattle.path_walk.specs.Bases.{IsBasisBefore}
use Rattle.path_walk.specs.KeptFields.{KeepsChanged}
use Rattle.path_walk.specs.declared.looks.Basis.{Basis}
use Rattle.path_walk.specs.declared.looks.Basis.TheVariants.{Boxes, Lines}
use Rattle.localise_tree.specs.declared.ends.Node.{Node}

-- a reached path with its weight, and the basis of the path before
pub record IsNode (c : SearchCase) (node : Node) : Type 0 where
  pub fit : length node.path ≤ field_count c
  pub weight : node.weight ≡ path_weight c.survey.fields node.path
  pub few : node.weight ≤ 1000 * length node.path
  pub reached : 0 < length node.path → IsOpen c (before_last node.path)
  pub basis : IsBasisBefore c node.path node.before

-- the paths of the ends
abbrev pub paths_of : List Node → List (List Bool)
paths_of nodes = map (λ (node : Node). node.path) nodes

-- the first comes before the second, by their weights and then letter by letter, or has the same path
abbrev pub before : Node → Node → Bool
before first second = nat_lt first.weight second.weight || ((first.weight == second.weight) && is_first first.path second.path)

-- the source keeps the system of the path before each end
abbrev pub AreKept : (ℕ → Bool) → SearchCase → List Node → Type 0
AreKept keeps c ends = AllByRecursion (λ (node : Node). KeepsChanged keeps c (before_last node.path)) ends

-- where the source keeps what the ends need, and the system of the path if it is open, it keeps what the later ends need
abbrev pub StayKept : SearchCase → List Bool → PathState → List Node → List Node → Type 0
StayKept c path state ends later =
    (keeps : ℕ → Bool) → (state ≡ Open → KeepsChanged keeps c path) → AreKept keeps c ends → AreKept keeps c later

-- the weight of the field at a place of the path order
abbrev pub weight_in_order : List Field → ℕ → ℕ
weight_in_order fields place = weight_at fields (slice_index_or (path_order fields) place 0)

-- the basis is this system
abbrev pub IsOfSystem : Held → Basis → Type 0
IsOfSystem held (Lines system) = arc_value system ≡ held
IsOfSystem held (Boxes boxes) = ⊥

-- the empty path alone, with this system
abbrev pub IsFirstEnd : Held → List Node → Type 0
IsFirstEnd held ends = (before : Basis) × (ends ≡ record { path = []; weight = 0; before = before } ∷ []) × IsOfSystem held before
