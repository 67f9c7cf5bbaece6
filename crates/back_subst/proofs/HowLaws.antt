use Rattle.std.proofs.Common.{◌≡◌, ℕ, ◌+◌, ◌<◌, ◌≤◌, ◌++◌, Bool, true, false, if◌then◌else◌, List, [], ◌∷◌, get_or, length, map, take, sym, ap, ◌∙◌}
use Rattle.std.specs.List.{filter}
use Rattle.std.proofs.lemmas.List.{append-nil, map-append, take_all, take_more}
use Rattle.std.proofs.lemmas.List.Elements.{filter-append}

-- What is told of those of the first fields of an order that pass a test, and of one more.

module _ {X : Type 0} (h : ℕ → X) (t : ℕ → Bool) (order : List ℕ) (i f : ℕ) (items : List X) (below : i < length order) (f_is : f ≡ get_or order i 0)
    (before : items ≡ map h (filter t (take i order))) where
  joined : (b : Bool) → t f ≡ b → map h (filter t (take (i + 1) order)) ≡ items ++ map h (if b then f ∷ [] else [])
  joined b e =
      ap (λ fs. map h (filter t fs)) (take_more order i 0 below ∙ ap (λ n. take i order ++ n ∷ []) (sym f_is))
      ∙ ap (λ fs. map h fs) (filter-append t (take i order) (f ∷ []))
      ∙ map-append h (filter t (take i order)) (filter t (f ∷ [])) ∙ ap (λ xs. xs ++ map h (filter t (f ∷ []))) (sym before)
      ∙ ap (λ b. items ++ map h (if b then f ∷ [] else [])) e

  pub told-more : t f ≡ true → items ++ h f ∷ [] ≡ map h (filter t (take (i + 1) order))
  told-more e = sym (joined true e)

  pub told-same : t f ≡ false → items ≡ map h (filter t (take (i + 1) order))
  told-same e = sym (append-nil items) ∙ sym (joined false e)

pub told-all : {X : Type 0} (h : ℕ → X) (t : ℕ → Bool) (order : List ℕ) (i : ℕ) (items : List X) → length order ≤ i
    → items ≡ map h (filter t (take i order)) → items ≡ map h (filter t order)
told-all h t order i items past is = is ∙ ap (λ fs. map h (filter t fs)) (take_all i order past)
