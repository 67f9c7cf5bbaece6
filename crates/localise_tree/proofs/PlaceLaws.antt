use Rattle.std.proofs.Common.{◌≡◌, ℕ, zero, suc, ◌<◌, Bool, true, false, if◌then◌else◌, List, [], ◌∷◌, length, slice_index_or, inl, inr, refl, sym}
use Rattle.std.proofs.Common.{ap, ◌∙◌, subst, arith}
use Rattle.std.specs.List.{AllByRecursion, insert}
use Rattle.std.specs.List.Sorted.{IsPartitionPoint, IsPartitionedBy}
use Rattle.edit_line.specs.Reductions.{IsIn}
use Rattle.edit_paths.specs.Cases.{SearchCase}
use Rattle.edit_paths.specs.ReachedPaths.{AreInOrder, is_before, placed}
use Rattle.edit_paths.proofs.OrderLaws.{folded-sorted}
use Rattle.edit_paths.proofs.PathOrder.{before-chain, before-equal, before-total}
use Rattle.localise_tree.specs.declared.ends.Node.{Node}
use Rattle.localise_tree.specs.inner.Nodes.{IsNode, before, paths_of}
use Rattle.localise_tree.proofs.EndLaws.{before-paths, placed-all, placed-paths}

-- The place of a node among ends in order.

-- an element at a place of which all earlier ones come before it, and no later one does, stands where it is placed
pub put-placed : {X : Type 0} (before : X → X → Bool) (xs : List X) (i : ℕ) (x : X)
    → IsPartitionPoint (λ y. before y x ≡ true) (λ y. before y x ≡ false) xs i → insert xs i x ≡ placed before xs x
put-placed before [] zero x point = refl
put-placed before [] (suc i) x point = refl
put-placed before (y ∷ ys) zero x point =
    sym (ap (λ (t : Bool). if t then y ∷ placed before ys x else x ∷ y ∷ ys) (point.1 0 y (omega arith) (omega arith)))
put-placed before (y ∷ ys) (suc i) x point =
    ap (λ (zs : List _). y ∷ zs) (put-placed before ys i x (
      λ k d low high. point.0 (suc k) d (omega arith) (omega (arith, high)),
      λ k d low high. point.1 (suc k) d (omega (arith, low)) (omega (arith, high)),
    ))
    ∙ sym (ap (λ (t : Bool). if t then y ∷ placed before ys x else x ∷ y ∷ ys) (point.0 0 y (omega arith) (omega arith)))

module _ (c : SearchCase) where
  -- an end is one of the paths
  end-in : (ends : List Node) (j : ℕ) (d : Node) → j < length ends → IsIn (slice_index_or ends j d).path (paths_of ends)
  end-in [] j d below = absurd (omega (arith, below))
  end-in (x ∷ ends) zero d below = inl refl
  end-in (x ∷ ends) (suc j) d below = inr (end-in ends j d (omega (arith, below)))

  end-node : (ends : List Node) (j : ℕ) (d : Node) → j < length ends → AllByRecursion (IsNode c) ends → IsNode c (slice_index_or ends j d)
  end-node [] j d below are = absurd (omega (arith, below))
  end-node (x ∷ ends) zero d below are = are.0
  end-node (x ∷ ends) (suc j) d below are = end-node ends j d (omega (arith, below)) are.1

  -- of ends in order those that come before a node stand in front of all others
  pub parted : (ends : List Node) (node : Node) → AllByRecursion (IsNode c) ends → IsNode c node → AreInOrder (is_before c.survey.fields) (paths_of ends)
      → IsPartitionedBy (λ (end : Node). before end node) ends
  parted [] node are is order i j d below within passes = absurd (omega (arith, within))
  parted (x ∷ ends) node are is order zero zero d below within passes = passes
  parted (x ∷ ends) node are is order zero (suc j) d below within passes =
      let there : j < length ends = omega (arith, within) in
      let late : Node = slice_index_or ends j d in
      before-paths c x node are.0 is
      ∙ before-chain c x.path late.path node.path (order.0 late.path (end-in ends j d there))
      (sym (before-paths c late node (end-node ends j d there are.1) is) ∙ passes)
  parted (x ∷ ends) node are is order (suc i) zero d below within passes = absurd (omega (arith, below))
  parted (x ∷ ends) node are is order (suc i) (suc j) d below within passes =
      parted ends node are.1 is order.1 i j d (omega (arith, below)) (omega (arith, within)) passes

  -- ends stay in order where a node is placed among them
  placed-order : (ends : List Node) (node : Node) → AllByRecursion (IsNode c) ends → IsNode c node → AreInOrder (is_before c.survey.fields) (paths_of ends)
      → AreInOrder (is_before c.survey.fields) (paths_of (placed before ends node))
  placed-order ends node are is order =
      subst (λ (ps : List (List Bool)). AreInOrder (is_before c.survey.fields) ps) (sym (placed-paths c ends node are is))
      (folded-sorted (is_before c.survey.fields) (before-total c) (before-chain c) (before-equal c) (paths_of ends) (node.path ∷ []) order)

  pub parted-next : (ends one : List Node) (kept changed : Node) → one ≡ placed before ends kept → AllByRecursion (IsNode c) ends → IsNode c kept
      → IsNode c changed → AreInOrder (is_before c.survey.fields) (paths_of ends) → IsPartitionedBy (λ (end : Node). before end changed) one
  parted-next ends one kept changed first are is_kept is_changed order =
      subst (λ (ns : List Node). IsPartitionedBy (λ (end : Node). before end changed) ns) (sym first)
      (parted (placed before ends kept) changed (placed-all (λ (node : Node). IsNode c node) ends kept are is_kept) is_changed
      (placed-order ends kept are is_kept order))

  -- the ends behind the first one
  pub rest-order : (ends rest : List Node) (node : Node) → ends ≡ node ∷ rest → AreInOrder (is_before c.survey.fields) (paths_of ends)
      → AreInOrder (is_before c.survey.fields) (paths_of rest)
  rest-order ends rest node is sorted = (subst (λ (ns : List Node). AreInOrder (is_before c.survey.fields) (paths_of ns)) is sorted).1
