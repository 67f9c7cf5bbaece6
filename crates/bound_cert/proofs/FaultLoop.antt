use Rattle.std.proofs.Common.{◌≡◌, ◌≢◌, ℕ, zero, suc, ◌+◌, ◌<◌, ◌≤◌, Bool, List, [], ◌∷◌, Option, Some, None, drop, get_or, length, refl, sym, subst, add-one}
use Rattle.std.proofs.Common.{arith}
use Rattle.std.proofs.lemmas.List.{drop_all}
use Rattle.bound_cert.specs.inner.Tasks.{SaysAt, SaysOfPlace, path_before}
use Rattle.bound_cert.specs.ValidTrees.{TreeCase, IsFaultBehind, IsFirstFault, IsValidTree}
use Rattle.bound_cert.specs.declared.cert.Leaf.{Leaf}
use Rattle.bound_cert.specs.declared.verdict.Verdict.TheVariants as verdict
use Rattle.bound_cert.proofs.FaultLaws.{AreRight, faultless-valid}
use Rattle.bound_cert.proofs.OrderLoop.{path_before-at}

-- The loop over the leaves.

-- what is right from this place on is so from the first leaf on, and a fault there is the first of all
abbrev pub GoesOn : TreeCase → List Leaf → ℕ → Type 0
GoesOn c leaves i =
    (AreRight c (path_before leaves i) (drop i leaves) → AreRight c None leaves)
    × ((k : ℕ) (step : Option ℕ) → IsFaultBehind c (path_before leaves i) (drop i leaves) k step → IsFaultBehind c None leaves (i + k) step)

-- it does at the first
pub goes-first : (c : TreeCase) (leaves : List Leaf) → GoesOn c leaves 0
goes-first c leaves = (λ right. right, λ k step fault. subst (λ (n : ℕ). IsFaultBehind c None leaves n step) (omega arith) fault)

-- an element and what is behind it
found : {X : Type 0} (xs : List X) (i : ℕ) (x : X) (rest : List X) → drop i xs ≡ x ∷ rest → (i < length xs) × (x ≡ get_or xs i x) × (drop (suc i) xs ≡ rest)
found [] zero x rest e = absurd (cc)
found [] (suc i) x rest e = absurd (cc)
found (y ∷ xs) zero x rest e = (omega arith, cc, cc)
found (y ∷ xs) (suc i) x rest e = let (below, same, behind) = found xs i x rest e in (omega (arith, below), same, behind)

module _ (c : TreeCase) (leaves : List Leaf) (i : ℕ) where
  -- and behind a valid leaf
  goes-behind : (leaf : Leaf) (later : List Leaf) → drop i leaves ≡ leaf ∷ later → GoesOn c leaves i → SaysAt c (path_before leaves i) leaf later verdict.Valid
      → GoesOn c leaves (suc i)
  goes-behind leaf later here goes (right, valid) =
      let (below, same, behind) = found leaves i leaf later here in
      let before = path_before-at leaves i leaf below same in
      let back : List Leaf → Type 0 = λ ls. AreRight c (path_before leaves i) ls in (
        λ rest. goes.0 (subst back (sym here) (
          right,
          valid,
          subst (λ (ls : List Leaf). AreRight c (Some leaf.path) ls) behind
              (subst (λ (b : Option (List Bool)). AreRight c b (drop (suc i) leaves)) before rest),
        )),
        λ k step fault.
            let there = subst (λ (ls : List Leaf). IsFaultBehind c (Some leaf.path) ls k step) behind
            (subst (λ (b : Option (List Bool)). IsFaultBehind c b (drop (suc i) leaves) k step) before fault) in
            subst (λ (n : ℕ). IsFaultBehind c None leaves n step) (omega arith)
            (goes.1 (suc k) step (subst (λ (ls : List Leaf). IsFaultBehind c (path_before leaves i) ls (suc k) step) (sym here) (right, valid, there))),
      )

  pub goes-more : GoesOn c leaves i → SaysOfPlace c leaves i (drop i leaves) verdict.Valid → GoesOn c leaves (i + 1)
  goes-more goes says = rw (add-one) (by (drop i leaves) refl says)
    where
      by : (ls : List Leaf) → drop i leaves ≡ ls → SaysOfPlace c leaves i ls verdict.Valid → GoesOn c leaves (suc i)
      by [] here none = absurd none
      by (leaf ∷ later) here said = goes-behind leaf later here goes said

  -- a fault that is found is the first
  pub fault-first : GoesOn c leaves i → (step : Option ℕ) → SaysOfPlace c leaves i (drop i leaves) (verdict.Invalid step) → IsFirstFault c leaves i step
  fault-first goes step says = first leaves (subst (λ (n : ℕ). IsFaultBehind c None leaves n step) (omega arith) (goes.1 0 step (by (drop i leaves) says)))
    where
      by : (ls : List Leaf) → SaysOfPlace c leaves i ls (verdict.Invalid step) → IsFaultBehind c (path_before leaves i) ls 0 step
      by [] none = absurd none
      by (leaf ∷ later) fault = fault

      first : (ls : List Leaf) → IsFaultBehind c None ls i step → IsFirstFault c ls i step
      first [] none = absurd none
      first (leaf ∷ later) fault = fault

  -- past the last leaf the tree is valid
  pub all-valid : length leaves ≤ i → leaves ≢ [] → GoesOn c leaves i → IsValidTree c leaves
  all-valid past some goes = faultless-valid c leaves some
      (goes.0 (subst (λ (ls : List Leaf). AreRight c (path_before leaves i) ls) (sym (drop_all i leaves past)) tt))
