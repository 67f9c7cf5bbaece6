use Rattle.std.proofs.Common.{◌≡◌, ℕ, zero, suc, ◌+◌, ◌<◌, ◌&&◌, Bool, true, false, List, [], ◌∷◌, ◌++◌, map, length, refl, ap, ◌∙◌, inl, arith}
use Rattle.std.proofs.lemmas.List.{length-append, length-map}
use Rattle.edit_line.specs.Reductions.{IsIn}
use Rattle.edit_line.proofs.BoolLaws.{both_true, true-both}
use Rattle.edit_line.proofs.Members.{in-left, in-map, in-right}
use Rattle.bound_cert.specs.Trees.{AreLeafPaths, Fork, Tip, Tree, all_changed, all_kept, comes_next, leaf_paths}

-- The leaves of a full tree, by the tree and one after another.

-- the path with a first field that is kept, or changed
abbrev pub keep : List Bool → List Bool
keep path = false ∷ path

abbrev pub change : List Bool → List Bool
change path = true ∷ path

-- whether these are all the paths behind this one in a full tree
abbrev pub are_rest : List Bool → List (List Bool) → Bool
are_rest before [] = all_changed before
are_rest before (path ∷ later) = comes_next before path && are_rest path later

-- ---- from the order to the tree

-- behind a path that changes the first field all do
behind : (q : List Bool) (rest : List (List Bool)) → are_rest (true ∷ q) rest ≡ true → (changed : List (List Bool)) × (rest ≡ map change changed)
    × (are_rest q changed ≡ true)
behind q [] h = ([], refl, h)
behind q ([] ∷ rest) h = absurd (cc)
behind q ((false ∷ s) ∷ rest) h = absurd (cc)
behind q ((true ∷ s) ∷ rest) h =
    let (here, later) = both_true _ _ h in
    let (changed, same, order) = behind s rest later in
    (s ∷ changed, ap (λ (ps : List (List Bool)). (true ∷ s) ∷ ps) same, true-both _ _ here order)

-- behind one that keeps it some do, and then there are some that change it
parted : (p : List Bool) (rest : List (List Bool)) → are_rest (false ∷ p) rest ≡ true
    → (kept : List (List Bool)) × (q : List Bool) × (changed : List (List Bool)) × (rest ≡ map keep kept ++ map change (q ∷ changed))
    × (are_rest p kept ≡ true) × (all_kept q ≡ true) × (are_rest q changed ≡ true)
parted p [] h = absurd (cc)
parted p ([] ∷ rest) h = absurd (cc)
parted p ((false ∷ s) ∷ rest) h =
    let (here, later) = both_true _ _ h in
    let (kept, q, changed, same, first, start, second) = parted s rest later in
    (s ∷ kept, q, changed, ap (λ (ps : List (List Bool)). (false ∷ s) ∷ ps) same, true-both _ _ here first, start, second)
parted p ((true ∷ s) ∷ rest) h =
    let (here, later) = both_true _ _ h in
    let (ends, start) = both_true _ _ here in
    let (changed, same, order) = behind s rest later in
    ([], s, changed, ap (λ (ps : List (List Bool)). (true ∷ s) ∷ ps) same, ends, start, order)

-- the leaves of two trees are those of the tree that forks into them
forked : (p : List Bool) (rest kept : List (List Bool)) (q : List Bool) (changed : List (List Bool)) (left right : Tree) → rest ≡ map keep kept
    ++ map change (q ∷ changed) → p ∷ kept ≡ leaf_paths left → q ∷ changed ≡ leaf_paths right → AreLeafPaths ((false ∷ p) ∷ rest)
forked p rest kept q changed left right same left_paths right_paths = (
  Fork left right,
  ap (λ (ps : List (List Bool)). (false ∷ p) ∷ ps) same ∙ ap (λ (ps : List (List Bool)). map keep ps ++ map change (q ∷ changed)) left_paths
      ∙ ap (λ (ps : List (List Bool)). map keep (leaf_paths left) ++ map change ps) right_paths,
)

grown : (n : ℕ) (p : List Bool) (rest : List (List Bool)) → length rest < n → all_kept p ≡ true → are_rest p rest ≡ true → AreLeafPaths (p ∷ rest)
grown zero p rest few start order = absurd (omega arith)
grown (suc n) [] [] few start order = (Tip, refl)
grown (suc n) [] (q ∷ rest) few start order = absurd (cc)
grown (suc n) (true ∷ p) rest few start order = absurd (cc)
grown (suc n) (false ∷ p) rest few start order =
    let (kept, q, changed, same, first, begins, second) = parted p rest order in
    let many : length rest ≡ length kept + suc (length changed) =
    ap length same ∙ length-append (map keep kept) (map change (q ∷ changed)) ∙ ap (λ (k : ℕ). k + suc (length (map change changed))) (length-map kept keep)
    ∙ ap (λ (k : ℕ). length kept + suc k) (length-map changed change) in
    let (left, left_paths) = grown n p kept (omega (arith, many, few)) start first in
    let (right, right_paths) = grown n q changed (omega (arith, many, few)) begins second in
    forked p rest kept q changed left right same left_paths right_paths

-- paths in order are those of a full tree
pub tree-grown : (p : List Bool) (rest : List (List Bool)) → all_kept p ≡ true → are_rest p rest ≡ true → AreLeafPaths (p ∷ rest)
tree-grown p rest start order = grown (suc (length rest)) p rest (omega arith) start order

-- ---- from the tree to the order

rest-change : (q : List Bool) (changed : List (List Bool)) → are_rest (true ∷ q) (map change changed) ≡ are_rest q changed
rest-change q [] = refl
rest-change q (s ∷ changed) = ap (λ b. comes_next q s && b) (rest-change s changed)

rest-joined : (p : List Bool) (kept : List (List Bool)) (q : List Bool) (changed : List (List Bool)) → are_rest p kept ≡ true → all_kept q ≡ true
    → are_rest q changed ≡ true
    → are_rest (false ∷ p) (map keep kept ++ map change (q ∷ changed)) ≡ true
rest-joined p [] q changed ends start order = true-both _ _ (true-both _ _ ends start) (rest-change q changed ∙ order)
rest-joined p (s ∷ kept) q changed first start order =
    let (here, later) = both_true _ _ first in true-both _ _ here (rest-joined s kept q changed later start order)

-- the paths of a full tree are in order
pub tree-ordered : (tree : Tree) → (p : List Bool) × (rest : List (List Bool)) × (leaf_paths tree ≡ p ∷ rest) × (all_kept p ≡ true) × (are_rest p rest ≡ true)
tree-ordered Tip = ([], [], refl, refl, refl)
tree-ordered (Fork left right) =
    let (p, kept, left_paths, start, first) = tree-ordered left in
    let (q, changed, right_paths, begins, second) = tree-ordered right in (
      keep p,
      map keep kept ++ map change (q ∷ changed),
      ap (λ (ps : List (List Bool)). map keep ps ++ map change (leaf_paths right)) left_paths
          ∙ ap (λ (ps : List (List Bool)). map keep (p ∷ kept) ++ map change ps) right_paths,
      start,
      rest-joined p kept q changed first begins second,
    )

-- ---- every word goes to a leaf

-- the letters are the same as far as both go
abbrev pub Agree : List Bool → List Bool → Type 0
Agree (a ∷ path) (b ∷ word) = (a ≡ b) × Agree path word
Agree _ _ = Unit {0}

-- a full tree has a leaf whose path agrees with the word
pub one-agrees : (tree : Tree) (word : List Bool) → (path : List Bool) × IsIn path (leaf_paths tree) × Agree path word
one-agrees Tip word = ([], inl refl, tt)
one-agrees (Fork kept changed) [] =
    let (path, there, agrees) = one-agrees kept [] in (keep path, in-left _ (map keep (leaf_paths kept)) _ (in-map keep path (leaf_paths kept) there), tt)
one-agrees (Fork kept changed) (false ∷ word) =
    let (path, there, agrees) = one-agrees kept word in
    (keep path, in-left _ (map keep (leaf_paths kept)) _ (in-map keep path (leaf_paths kept) there), (refl, agrees))
one-agrees (Fork kept changed) (true ∷ word) =
    let (path, there, agrees) = one-agrees changed word in
    (change path, in-right _ (map keep (leaf_paths kept)) (map change (leaf_paths changed)) (in-map change path (leaf_paths changed) there), (refl, agrees))
