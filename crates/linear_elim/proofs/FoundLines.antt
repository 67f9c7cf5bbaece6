use Rattle.std.proofs.Common.{◌≡◌, Bool, true, false, if◌then◌else◌, List, [], ◌∷◌, Some, None, ◌⊎◌, inl, inr, refl}
use Rattle.std.specs.List.{find}
use Rattle.edit_line.specs.Reductions.{IsIn}
use Rattle.linear_elim.specs.Steps.{without_first}

-- The first element that passes a test, and the others.

module _ {X : Type 0} (test : X → Bool) where
  -- the one that is found is in the list, and passes
  pub found-in : (e : X) (xs : List X) → find test xs ≡ Some e → IsIn e xs × (test e ≡ true)
  found-in e [] found = absurd (cc)
  found-in e (x ∷ xs) found = by (test x) refl found (found-in e xs)
    where
      by : (b : Bool) → test x ≡ b → (if b then Some x else find test xs) ≡ Some e → (find test xs ≡ Some e → IsIn e xs × (test e ≡ true))
          → IsIn e (x ∷ xs) × (test e ≡ true)
      by true is h rest = let same : e ≡ x = cc in (inl same, cc)
      by false is h rest = let (there, passes) = rest h in (inr there, passes)

  -- where none is found, none passes
  pub none-found : (x : X) (xs : List X) → find test xs ≡ None → IsIn x xs → test x ≡ false
  none-found x [] none there = absurd there
  none-found x (y ∷ xs) none there = by (test y) refl none there (none-found x xs)
    where
      by : (b : Bool) → test y ≡ b → (if b then Some y else find test xs) ≡ None → IsIn x (y ∷ xs) → (find test xs ≡ None → IsIn x xs → test x ≡ false)
          → test x ≡ false
      by true is h there rest = absurd (cc)
      by false is h (inl same) rest = cc
      by false is h (inr there) rest = rest h there

  -- the others are in the list
  pub others-there : (x : X) (xs : List X) → IsIn x (without_first test xs) → IsIn x xs
  others-there x [] there = there
  others-there x (y ∷ xs) there = by (test y) there (others-there x xs)
    where
      by : (b : Bool) → IsIn x (if b then xs else y ∷ without_first test xs) → (IsIn x (without_first test xs) → IsIn x xs) → IsIn x (y ∷ xs)
      by true there rest = inr there
      by false (inl same) rest = inl same
      by false (inr there) rest = inr (rest there)

  -- each of the list is the one that is found, or one of the others
  pub found-or_other : (e x : X) (xs : List X) → find test xs ≡ Some e → IsIn x xs → (x ≡ e) ⊎ IsIn x (without_first test xs)
  found-or_other e x [] found there = absurd there
  found-or_other e x (y ∷ xs) found there = by (test y) found there (found-or_other e x xs)
    where
      by : (b : Bool) → (if b then Some y else find test xs) ≡ Some e → IsIn x (y ∷ xs)
          → (find test xs ≡ Some e → IsIn x xs → (x ≡ e) ⊎ IsIn x (without_first test xs))
          → (x ≡ e) ⊎ IsIn x (if b then xs else y ∷ without_first test xs)
      by true h (inl same) rest = inl (cc)
      by true h (inr there) rest = inr there
      by false h (inl same) rest = inr (inl same)
      by false h (inr there) rest = elim (rest h there) [ inl same ↦ inl same | inr other ↦ inr (inr other) ]
