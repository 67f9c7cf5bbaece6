use Rattle.std.proofs.Common.{◌≡◌, ◌≢◌, ◌⊎◌, ℕ, zero, suc, ◌<◌, ◌≤◌, nat_le, Bool, true, List, [], ◌∷◌, Option, Some, None, IfSome, Result, Ok, Err, length}
use Rattle.std.proofs.Common.{map, inl, inr, refl, sym, ap, ◌∙◌, subst, arith}
use Rattle.std.specs.List.{AllByRecursion}
use Rattle.std.specs.Result.{result_err}
use Rattle.std.proofs.lemmas.Bool.Decides.{nat_tests}
use Rattle.edit_line.proofs.BoolLaws.{both_true, true-both}
use Rattle.derivation.specs.Premises.{Premises}
use Rattle.derivation.specs.ValidSteps.{steps_result}
use Rattle.derivation.specs.declared.proved.Proved.{Proved}
use Rattle.derivation.specs.declared.step.Step.{Step}
use Rattle.derivation.proofs.Places.{place-steps_result}
use Rattle.bound_cert.specs.Trees.{all_kept, may_end, may_stand}
use Rattle.bound_cert.specs.ValidTrees.{IsFaultBehind, IsFirstFault, IsNamedIn, IsValidLeaf, IsValidTree, TreeCase, first_invalid, invalid_step, is_right}
use Rattle.bound_cert.specs.ValidTrees.{premises_at, steps_in}
use Rattle.bound_cert.specs.declared.cert.Leaf.{Leaf}
use Rattle.bound_cert.specs.declared.cert.LeafWhy.{LeafWhy}
use Rattle.bound_cert.specs.declared.cert.LeafWhy.TheVariants as why
use Rattle.bound_cert.proofs.TreeLaws.{are_rest, tree-grown, tree-ordered}

-- A tree is valid exactly where no leaf is at fault.

-- the leaves behind the one before are right, and valid
abbrev pub AreRight : TreeCase → Option (List Bool) → List Leaf → Type 0
AreRight c before [] = Unit {0}
AreRight c before (leaf ∷ later) = (is_right c before leaf.path later ≡ true) × IsValidLeaf c leaf.path leaf.why × AreRight c (Some leaf.path) later

abbrev pub paths : List Leaf → List (List Bool)
paths leaves = map (λ (leaf : Leaf). leaf.path) leaves

abbrev pub AreShort : TreeCase → List Leaf → Type 0
AreShort c leaves = AllByRecursion (λ (leaf : Leaf). length leaf.path ≤ length c.survey.fields) leaves

abbrev pub AreValid : TreeCase → List Leaf → Type 0
AreValid c leaves = AllByRecursion (λ (leaf : Leaf). IsValidLeaf c leaf.path leaf.why) leaves

le-true : (a b : ℕ) → nat_le a b ≡ true → a ≤ b
le-true a b h = grind (arith, nat_tests)

true-le : (a b : ℕ) → a ≤ b → nat_le a b ≡ true
true-le a b h = grind (arith, nat_tests)

module _ (c : TreeCase) where
  -- ---- right leaves make a valid tree

  rest-right : (before : List Bool) (later : List Leaf) → may_end before later ≡ true → AreRight c (Some before) later → are_rest before (paths later) ≡ true
  rest-right before [] ends right = ends
  rest-right before (leaf ∷ later) ends right =
      let (stands, more) = both_true _ _ right.0 in
      let (next, short) = both_true _ _ more in true-both _ _ stands (rest-right leaf.path later next right.2)

  short-right : (before : Option (List Bool)) (leaves : List Leaf) → AreRight c before leaves → AreShort c leaves
  short-right before [] right = tt
  short-right before (leaf ∷ later) right =
      let (stands, more) = both_true _ _ right.0 in
      let (next, short) = both_true _ _ more in (le-true _ _ short, short-right (Some leaf.path) later right.2)

  valid-right : (before : Option (List Bool)) (leaves : List Leaf) → AreRight c before leaves → AreValid c leaves
  valid-right before [] right = tt
  valid-right before (leaf ∷ later) right = (right.1, valid-right (Some leaf.path) later right.2)

  pub right-valid : (leaf : Leaf) (later : List Leaf) → AreRight c None (leaf ∷ later) → IsValidTree c (leaf ∷ later)
  right-valid leaf later right =
      let (stands, more) = both_true _ _ right.0 in
      let (next, short) = both_true _ _ more in
      let full = tree-grown leaf.path (paths later) stands (rest-right leaf.path later next right.2) in
      record { full = full; depth = short-right None (leaf ∷ later) right; each = valid-right None (leaf ∷ later) right }

  -- ---- a valid tree has no fault

  ends-rest : (before : List Bool) (later : List Leaf) → are_rest before (paths later) ≡ true → may_end before later ≡ true
  ends-rest before [] order = order
  ends-rest before (leaf ∷ later) order = refl

  right-rest : (before : Option (List Bool)) (leaf : Leaf) (later : List Leaf) → may_stand before leaf.path ≡ true → are_rest leaf.path (paths later) ≡ true
      → AreShort c (leaf ∷ later) → AreValid c (leaf ∷ later) → AreRight c before (leaf ∷ later)
  right-rest before leaf [] stands order short valid = (true-both _ _ stands (true-both _ _ (ends-rest leaf.path [] order) (true-le _ _ short.0)), valid.0, tt)
  right-rest before leaf (next ∷ later) stands order short valid =
      let (here, rest) = both_true _ _ order in (
        true-both _ _ stands (true-both _ _ (ends-rest leaf.path (next ∷ later) order) (true-le _ _ short.0)),
        valid.0,
        right-rest (Some leaf.path) next later
            here rest short.1 valid.1,
      )

  pub valid-all_right : (leaf : Leaf) (later : List Leaf) → IsValidTree c (leaf ∷ later) → AreRight c None (leaf ∷ later)
  valid-all_right leaf later valid =
      let (p, rest, same, start, order) = tree-ordered valid.full.0 in
      let whole = valid.full.1 ∙ same in
      let here : leaf.path ≡ p = cc in
      let behind : paths later ≡ rest = cc in
      right-rest None leaf later (ap all_kept here ∙ start) (ap (λ (q : List Bool). are_rest q (paths later)) here ∙ ap (are_rest p) behind ∙ order) valid.depth
      valid.each

  right-faultless : (before : Option (List Bool)) (leaves : List Leaf) (place : ℕ) (step : Option ℕ) → AreRight c before leaves
      → IsFaultBehind c before leaves place step → ⊥
  right-faultless before [] place step right fault = fault
  right-faultless before (leaf ∷ later) zero step right (inl wrong) = absurd (cc (sym right.0 ∙ wrong.0))
  right-faultless before (leaf ∷ later) zero step right (inr bad) = bad.1 right.1
  right-faultless before (leaf ∷ later) (suc place) step right fault = right-faultless (Some leaf.path) later place step right.2 fault.2

  -- a tree with a fault is not valid
  pub fault-invalid : (leaves : List Leaf) (place : ℕ) (step : Option ℕ) → IsFirstFault c leaves place step → ¬ IsValidTree c leaves
  fault-invalid [] place step fault = λ valid. let (p, rest, same, start, order) = tree-ordered valid.full.0 in absurd (cc (valid.full.1 ∙ same))
  fault-invalid (leaf ∷ later) place step fault = λ valid. right-faultless None (leaf ∷ later) place step (valid-all_right leaf later valid) fault

  -- one without is
  pub faultless-valid : (leaves : List Leaf) → leaves ≢ [] → AreRight c None leaves → IsValidTree c leaves
  faultless-valid [] some right = absurd (some refl)
  faultless-valid (leaf ∷ later) some right = right-valid leaf later right

  -- there is one first fault
  pub one-fault : (before : Option (List Bool)) (leaves : List Leaf) (place other : ℕ) (step another : Option ℕ) → IsFaultBehind c before leaves place step
      → IsFaultBehind c before leaves other another → (place ≡ other) × (step ≡ another)
  one-fault before [] place other step another first second = absurd first
  one-fault before (leaf ∷ later) zero zero step another (inl a) (inl b) = (refl, a.1 ∙ sym b.1)
  one-fault before (leaf ∷ later) zero zero step another (inl a) (inr b) = absurd (cc (sym a.0 ∙ b.0))
  one-fault before (leaf ∷ later) zero zero step another (inr a) (inl b) = absurd (cc (sym b.0 ∙ a.0))
  one-fault before (leaf ∷ later) zero zero step another (inr a) (inr b) = (refl, a.2 ∙ sym b.2)
  one-fault before (leaf ∷ later) zero (suc other) step another (inl a) second = absurd (cc (sym a.0 ∙ second.0))
  one-fault before (leaf ∷ later) zero (suc other) step another (inr a) second = absurd (a.1 second.1)
  one-fault before (leaf ∷ later) (suc place) zero step another first (inl b) = absurd (cc (sym b.0 ∙ first.0))
  one-fault before (leaf ∷ later) (suc place) zero step another first (inr b) = absurd (b.1 first.1)
  one-fault before (leaf ∷ later) (suc place) (suc other) step another first second =
      let (same, named) = one-fault (Some leaf.path) later place other step another first.2 second.2 in (ap suc same, named)

-- ---- what a fault names

first-within : (p : Premises) (steps : List Step) → IfSome (first_invalid p steps) (λ s. s < length steps)
first-within p [] = tt
first-within p (step ∷ steps) = by (steps_result p (step ∷ steps)) (place-steps_result p (step ∷ steps))
  where
    by : (r : Result Proved ℕ) → ((place : ℕ) → r ≡ Err place → ((step ∷ steps ≡ []) × (place ≡ 0)) ⊎ (place < length (step ∷ steps)))
        → IfSome (result_err r) (λ s. s < length (step ∷ steps))
    by (Ok proved) named = tt
    by (Err place) named = within (named place refl)
      where
        within : ((step ∷ steps ≡ []) × (place ≡ 0)) ⊎ (place < length (step ∷ steps)) → place < length (step ∷ steps)
        within (inl none) = absurd (cc (none.0))
        within (inr below) = below

step-within : (c : TreeCase) (path : List Bool) (reason : LeafWhy) → IfSome (invalid_step c path reason) (λ s. s < length (steps_in reason))
step-within c path why.Bound = tt
step-within c path why.BadKept = tt
step-within c path (why.Line steps) = first-within (premises_at c path) steps
step-within c path (why.Box steps) = first-within (premises_at c path) steps

-- a fault is at a leaf, and its step is one of that leaf
pub fault-named : (c : TreeCase) (before : Option (List Bool)) (leaves : List Leaf) (place : ℕ) (step : Option ℕ) → IsFaultBehind c before leaves place step
    → IsNamedIn leaves place step
fault-named c before [] place step fault = absurd fault
fault-named c before (leaf ∷ later) zero step (inl wrong) = subst (λ (s : Option ℕ). IfSome s (λ n. n < length (steps_in leaf.why))) (sym wrong.1) tt
fault-named c before (leaf ∷ later) zero step (inr bad) = subst (λ (s : Option ℕ). IfSome s (λ n. n < length (steps_in leaf.why))) (sym bad.2)
    (step-within c leaf.path leaf.why)
fault-named c before (leaf ∷ later) (suc place) step fault = fault-named c (Some leaf.path) later place step fault.2

pub first-named : (c : TreeCase) (leaves : List Leaf) (place : ℕ) (step : Option ℕ) → IsFirstFault c leaves place step
    → ((leaves ≡ []) × (place ≡ 0) × (step ≡ None)) ⊎ IsNamedIn leaves place step
first-named c [] place step (first, none) = inl (refl, first, none)
first-named c (leaf ∷ later) place step fault = inr (fault-named c None (leaf ∷ later) place step fault)
