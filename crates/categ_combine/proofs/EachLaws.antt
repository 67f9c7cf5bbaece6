use Rattle.std.proofs.Common.{◌≡◌, ℕ, zero, suc, ◌+◌, ◌<◌, List, [], ◌∷◌, ◌++◌, append-nil, append_assoc, get_or, length, take, sym, ap, ◌∙◌, arith}
use Rattle.std.specs.List.{fold}
use Rattle.std.proofs.lemmas.List.Sums.{fold-append}
use Rattle.categ_combine.specs.Each.{each_from}

-- Lists that are made element by element, with their places.

-- one element more
each-more : {X A : Type 0} (give : ℕ → X → List A) (j : ℕ) (xs : List X) (i : ℕ) (d : X) → i < length xs
    → each_from give j (take (suc i) xs) ≡ each_from give j (take i xs) ++ give (j + i) (get_or xs i d)
each-more give j [] i d below = absurd (omega arith)
each-more {X} {A} give j (x ∷ xs) zero d below = append-nil (give j x) ∙ ap (λ n. give n x) (same j)
  where
    same : (j : ℕ) → j ≡ j + 0
    same j = omega arith
each-more {X} {A} give j (x ∷ xs) (suc i) d below =
    ap (λ rest. give j x ++ rest) (each-more give (suc j) xs i d (omega arith)
    ∙ ap (λ n. each_from give (suc j) (take i xs) ++ give n (get_or xs i d)) (same j i))
    ∙ sym (append_assoc (give j x) (each_from give (suc j) (take i xs)) (give (j + suc i) (get_or xs i d)))
  where
    same : (j i : ℕ) → suc j + i ≡ j + suc i
    same j i = omega arith

-- and taken into what there is
pub each-taken : {X A B : Type 0} (f : B → A → B) (give : ℕ → X → List A) (a : B) (xs : List X) (i : ℕ) (d : X) → i < length xs
    → fold f a (each_from give 0 (take (i + 1) xs)) ≡ fold f (fold f a (each_from give 0 (take i xs))) (give i (get_or xs i d))
each-taken {X} {A} {B} f give a xs i d below =
    ap (λ n. fold f a (each_from give 0 (take n xs))) next
    ∙ ap (λ ys. fold f a ys) (each-more give 0 xs i d below ∙ ap (λ n. each_from give 0 (take i xs) ++ give n (get_or xs i d)) first)
    ∙ fold-append f a (each_from give 0 (take i xs)) (give i (get_or xs i d))
  where
    next : i + 1 ≡ suc i
    next = omega arith

    first : 0 + i ≡ i
    first = omega arith

-- what the elements up to one more give
pub each-next : {X A : Type 0} (give : ℕ → X → List A) (xs : List X) (i : ℕ) (d : X) → i < length xs
    → each_from give 0 (take (i + 1) xs) ≡ each_from give 0 (take i xs) ++ give i (get_or xs i d)
each-next {X} {A} give xs i d below =
    ap (λ n. each_from give 0 (take n xs)) next ∙ each-more give 0 xs i d below ∙ ap (λ n. each_from give 0 (take i xs) ++ give n (get_or xs i d)) first
  where
    next : i + 1 ≡ suc i
    next = omega arith

    first : 0 + i ≡ i
    first = omega arith
