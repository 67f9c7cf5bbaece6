use Rattle.std.proofs.Common.{◌≡◌, ◌∙◌, ◌++◌, List, [], ◌∷◌, ap, append_assoc, map, sym}
use Rattle.std.specs.List.{flat_map}

-- What is made of the elements of a list, and put behind one another, where one element more is taken out of the list.

module _ {X Y : Type 0} (item : X) (left rest : List X) (is : left ≡ item ∷ rest) (before after whole : List Y) where
  -- one thing is made of each element
  pub map-moved : (f : X → Y) → after ≡ before ++ f item ∷ [] → before ++ map f left ≡ whole → after ++ map f rest ≡ whole
  map-moved f more all =
      ap (λ (ys : List Y). ys ++ map f rest) more ∙ append_assoc before (f item ∷ []) (map f rest)
      ∙ sym (ap (λ (xs : List X). before ++ map f xs) is) ∙ all

  -- a list is made of each element
  pub flat-moved : (f : X → List Y) → after ≡ before ++ f item → before ++ flat_map f left ≡ whole → after ++ flat_map f rest ≡ whole
  flat-moved f more all =
      ap (λ (ys : List Y). ys ++ flat_map f rest) more ∙ append_assoc before (f item) (flat_map f rest)
      ∙ sym (ap (λ (xs : List X). before ++ flat_map f xs) is) ∙ all
