use Rattle.std.specs.Prelude.{◌≡◌, ℕ, zero, suc, ◌<◌, ◌==◌, ◌++◌, ◌&&◌, ◌||◌, Bool, true, false, List, [], ◌∷◌, if◌then◌else◌, length, nat_lt, take}
use Rattle.std.specs.List.{fold}
use Rattle.edit_model.specs.Corrections.{is_first}
use Rattle.edit_model.specs.declared.field.Field.{Field}
use Rattle.edit_line.specs.Reductions.{IsIn}
use Rattle.bound_cert.specs.Paths.{path_weight}
use Rattle.edit_paths.specs.Cases.{SearchCase}
use Rattle.edit_paths.specs.PathStates.{is_open}
use Rattle.edit_paths.specs.Paths.{field_count}
use Rattle.edit_paths.specs.States.{IsOpen, state_of}

-- whether a path comes before another, or is the same: by weight, and then letter by letter, kept before changed,
-- a prefix before what extends it
abbrev pub is_before : List Field → List Bool → List Bool → Bool
is_before fields a b =
    nat_lt (path_weight fields a) (path_weight fields b) || ((path_weight fields a == path_weight fields b) && is_first a b)

-- the path is reached: all paths that it extends are open
abbrev pub IsReached : SearchCase → List Bool → Type 0
IsReached c path = (k : ℕ) → k < length path → IsOpen c (take k path)

-- the path with its next field kept
abbrev pub kept_next : List Bool → List Bool
kept_next path = path ++ false ∷ []

-- the path with its next field changed
abbrev pub changed_next : List Bool → List Bool
changed_next path = path ++ true ∷ []

-- the reached paths from this one on, letter by letter, where this many fields are left: an open path leads on to both
-- paths with one field more
abbrev pub reached_from : SearchCase → ℕ → List Bool → List (List Bool)
reached_from c zero path = path ∷ []
reached_from c (suc left) path =
    path ∷ (if is_open (state_of c path) then reached_from c left (kept_next path) ++ reached_from c left (changed_next path) else [])

-- the list with one more element, behind those that come before it
abbrev pub placed : {X : Type 0} → (X → X → Bool) → List X → X → List X
placed before [] x = x ∷ []
placed before (y ∷ ys) x = if before y x then y ∷ placed before ys x else x ∷ y ∷ ys

-- the elements in order
abbrev pub in_order : {X : Type 0} → (X → X → Bool) → List X → List X
in_order before xs = fold (placed before) [] xs

-- the elements are in order: each comes before all later ones
abbrev pub AreInOrder : {X : Type 0} → (X → X → Bool) → List X → Type 0
AreInOrder before [] = Unit {0}
AreInOrder {X} before (x ∷ xs) = ((later : X) → IsIn later xs → before x later ≡ true) × AreInOrder before xs

-- the reached paths in the order of paths
abbrev pub reached_paths : SearchCase → List (List Bool)
reached_paths c = in_order (is_before c.survey.fields) (reached_from c (field_count c) [])
