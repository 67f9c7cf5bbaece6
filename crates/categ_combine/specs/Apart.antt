use Rattle.std.specs.Prelude.{◌≡◌, ℕ, false, List, [], ◌∷◌}
use Rattle.edit_line.specs.Sets.{are_subsets}
use Rattle.categ_combine.specs.BoxLists.{sets_of}
use Rattle.categ_combine.specs.declared.box_from.BoxFrom.{BoxFrom}

-- neither of the two boxes lies inside the other
abbrev pub AreApart : List ℕ → List ℕ → Type 0
AreApart a b = (are_subsets a b ≡ false) × (are_subsets b a ≡ false)

-- the box is apart from each of the boxes
abbrev pub IsApart : List ℕ → List (List ℕ) → Type 0
IsApart a [] = Unit {0}
IsApart a (b ∷ boxes) = AreApart a b × IsApart a boxes

-- no box lies inside another
abbrev pub AllApart : List (List ℕ) → Type 0
AllApart [] = Unit {0}
AllApart (a ∷ boxes) = IsApart a boxes × AllApart boxes

-- no box of the list lies inside another
abbrev pub LieApart : List BoxFrom → Type 0
LieApart boxes = AllApart (sets_of boxes)
