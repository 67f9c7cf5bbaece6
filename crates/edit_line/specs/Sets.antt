use Rattle.std.specs.Prelude.{◌≡◌, ℕ, ◌<◌, ◌≤◌, ◌&&◌, not, Bool, true, false, List, [], ◌∷◌, nat_eq, bit_and}
use Rattle.std.specs.Int.{bit_at}
use Rattle.std.specs.List.{list_all}
use Rattle.edit_model.specs.Points.{has_code}

-- A set of codes is a number, whose bit c stands for the code of number c. A list of sets has one for each categorical field.

-- the set has the code
abbrev pub HasCode : ℕ → ℕ → Type 0
HasCode set code = bit_at set code ≡ 1

-- each code is in its set
abbrev pub AreCodesIn : List ℕ → List ℕ → Type 0
AreCodesIn (set ∷ sets) (code ∷ codes) = HasCode set code × AreCodesIn sets codes
AreCodesIn _ _ = Unit {0}

-- whether each code is in its set
abbrev pub are_codes_in : List ℕ → List ℕ → Bool
are_codes_in (set ∷ sets) (code ∷ codes) = has_code set code && are_codes_in sets codes
are_codes_in _ _ = true

-- whether each set of the first lies inside that of the second
abbrev pub are_subsets : List ℕ → List ℕ → Bool
are_subsets (s ∷ first) (t ∷ second) = nat_eq (bit_and s t) s && are_subsets first second
are_subsets [] (t ∷ second) = false
are_subsets first [] = true

-- no set is empty
abbrev pub none_is_empty : List ℕ → Bool
none_is_empty sets = list_all (λ s. not (nat_eq s 0)) sets

-- a set for each whole set of a field's codes: it has a code, and none but the field's
abbrev pub AreSets : List ℕ → List ℕ → Type 0
AreSets [] [] = Unit {0}
AreSets (set ∷ sets) (whole ∷ wholes) = (0 < set) × (set ≤ whole) × AreSets sets wholes
AreSets _ _ = ⊥
