use Rattle.std.specs.Prelude.{◌≡◌, ◌&&◌, not, Bool, true, false, List, [], ◌∷◌, ◌++◌, Option, Some, None, map}
use Rattle.std.specs.List.{list_all}

-- a full tree: a leaf, or a next field, with a tree for where it is kept and a tree for where it is changed
pub data Tree : Type 0 where
  Tip : Tree
  Fork : (kept changed : Tree) → Tree

-- the path to each leaf, in order
abbrev pub leaf_paths : Tree → List (List Bool)
leaf_paths Tip = [] ∷ []
leaf_paths (Fork kept changed) =
    map (λ (path : List Bool). false ∷ path) (leaf_paths kept) ++ map (λ (path : List Bool). true ∷ path) (leaf_paths changed)

-- these are, in order, the paths to all leaves of a full tree
abbrev pub AreLeafPaths : List (List Bool) → Type 0
AreLeafPaths paths = (tree : Tree) × (paths ≡ leaf_paths tree)

-- ---- leaf paths, one after the other

-- whether the path keeps all its fields
abbrev pub all_kept : List Bool → Bool
all_kept path = list_all not path

-- whether the path changes all its fields
abbrev pub all_changed : List Bool → Bool
all_changed path = list_all (λ changed. changed) path

-- whether the second path comes right after the first: they are alike up to a field that the first keeps and the
-- second changes; behind it the first changes all its fields, and the second keeps all its own
abbrev pub comes_next : List Bool → List Bool → Bool
comes_next (false ∷ first) (false ∷ second) = comes_next first second
comes_next (true ∷ first) (true ∷ second) = comes_next first second
comes_next (false ∷ first) (true ∷ second) = all_changed first && all_kept second
comes_next _ _ = false

-- whether the path may stand behind the one before; the first of all keeps all its fields
abbrev pub may_stand : Option (List Bool) → List Bool → Bool
may_stand None path = all_kept path
may_stand (Some before) path = comes_next before path

-- whether the path may stand before these later ones: the last of all changes all its fields, and of any other nothing is asked
abbrev pub may_end : {X : Type 0} → List Bool → List X → Bool
may_end path [] = all_changed path
may_end path (next ∷ later) = true
