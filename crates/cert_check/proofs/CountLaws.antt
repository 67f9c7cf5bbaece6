-- How many lines the parts of a proof take, one part after the other.
use Rattle.std.proofs.Common.{◌≡◌, ◌∙◌, ◌+◌, ◌<◌, ◌≤◌, ℕ, List, [], ◌∷◌, ◌++◌, ap, arith, get_or, length, subst, sym, take}
use Rattle.std.specs.List.{flat_map}
use Rattle.std.proofs.lemmas.Grind.{flat_map-append}
use Rattle.std.proofs.lemmas.List.{length-append, take_more}
use Rattle.std.proofs.lemmas.List.Folds.{length-flat_map-take}

module _ {X Y : Type 0} (f : X → List Y) (xs : List X) (i : ℕ) (x : X) (below : i < length xs) (is : x ≡ get_or xs i x) where
  -- what one more element takes still fits
  pub count-fits : length (flat_map f (take i xs)) + length (f x) ≤ length (flat_map f xs)
  count-fits = subst (λ (y : X). length (flat_map f (take i xs)) + length (f y) ≤ length (flat_map f xs)) (sym is) (length-flat_map-take f xs i x below)

  -- and is added
  pub count-more : length (flat_map f (take (i + 1) xs)) ≡ length (flat_map f (take i xs)) + length (f x)
  count-more =
      ap (λ (ys : List X). length (flat_map f ys)) (take_more xs i x below ∙ ap (λ (y : X). take i xs ++ y ∷ []) (sym is))
      ∙ ap (λ (ys : List Y). length ys) (flat_map-append f (take i xs) (x ∷ []))
      ∙ length-append (flat_map f (take i xs)) (flat_map f (x ∷ []))
      ∙ ap (λ n. length (flat_map f (take i xs)) + n) (alone)
    where
      alone : length (flat_map f (x ∷ [])) ≡ length (f x)
      alone = length-append (f x) [] ∙ omega arith
