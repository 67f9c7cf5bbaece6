use Rattle.std.proofs.Common.{◌≡◌, ℕ, zero, suc, ◌<◌, ◌≤◌, Bool, false, List, [], ◌∷◌, ◌++◌, All, get_or, length, take, subst, append-nil, arith}
use Rattle.std.specs.Prelude.{nat_eq}
use Rattle.std.specs.Cmp.{nat_eq_equiv}
use Rattle.std.specs.List.{Contains, IsDistinct, fold, position_or_len}
use Rattle.std.specs.List.Sorted.{IsPermutation, IsStrictlyIncreasing}
use Rattle.std.proofs.lemmas.List.{length-take}
use Rattle.std.proofs.lemmas.List.Elements.{All-contains_itself, All-take}
use Rattle.std.proofs.lemmas.List.Kept.{AllPairs-from_increasing}
use Rattle.std.proofs.lemmas.List.Sorted.{All-permutation, IsPermutation-append_right, IsPermutation-insert, IsPermutation-middle}
use Rattle.std.proofs.lemmas.List.Sorted.{IsPermutation-refl, IsPermutation-sym, IsPermutation-trans}
use Rattle.std.proofs.lemmas.Map.Keys.{IsDistinct-IsPermutation, IsDistinct-from_apart}
use Rattle.edit_model.specs.CleanRecords.{is_clean}
use Rattle.edit_model.specs.Parts.{SurveyParts}
use Rattle.edit_model.specs.declared.value.Value.{Value}
use Rattle.donor_measure.specs.declared.yardstick.Yardstick.{Yardstick}
use Rattle.donor_search.specs.CleanRows.{IsCleanRow, donors_of}
use Rattle.donor_search.specs.Rankings.{distance_to, in_order, is_nearer, placed, ranking_of}
use Rattle.donor_search.proofs.CleanLaws.{donors_clean}
use Rattle.donor_search.proofs.OrderLaws.{all_take}
use Rattle.donor_search.proofs.PlaceLaws.{all-rise}

-- Which donors a ranking has: some of the deck, no more than are asked for, and none twice.

-- ---- a list in order has the elements of the list

module _ {X : Type 0} (before : X → X → Bool) where
  fold_moves : (xs ys : List X) → IsPermutation (xs ++ ys) (fold (λ ordered x. placed before x ordered) ys xs)
  fold_moves [] ys = IsPermutation-refl ys
  fold_moves (x ∷ xs) ys =
      let front = IsPermutation-sym (xs ++ x ∷ ys) (x ∷ xs ++ ys) (IsPermutation-middle xs x ys) in
      let there = IsPermutation-append_right xs (x ∷ ys) (placed before x ys) (IsPermutation-insert ys (position_or_len (before x) ys) x) in
      IsPermutation-trans (x ∷ xs ++ ys) (xs ++ x ∷ ys) _ front
      (IsPermutation-trans (xs ++ x ∷ ys) (xs ++ placed before x ys) _ there (fold_moves xs (placed before x ys)))

  pub order_moves : (xs : List X) → IsPermutation xs (in_order before xs)
  order_moves xs = subst (λ (ys : List X). IsPermutation ys (in_order before xs)) (append-nil xs) (fold_moves xs [])

-- ---- what differs

once_taken : (n : ℕ) (xs : List ℕ) → IsDistinct nat_eq xs → IsDistinct nat_eq (take n xs)
unfolding IsDistinct
once_taken zero xs once = tt
once_taken (suc n) [] once = tt
once_taken (suc n) (x ∷ xs) once = (all_take (λ y. nat_eq x y ≡ false) n xs once.0, once_taken n xs once.1)

-- numbers that rise differ
pub once_rising : (xs : List ℕ) → IsStrictlyIncreasing xs → IsDistinct nat_eq xs
once_rising xs rising = IsDistinct-from_apart nat_eq xs
    (λ i j d less within. apart (get_or xs i d) (get_or xs j d) (AllPairs-from_increasing xs rising i j d less within))
  where
    apart : (a b : ℕ) → a < b → nat_eq a b ≡ false
    apart a b less = grind (arith, less)

-- ---- a ranking

module _ (yardsticks : List Yardstick) where
  -- what holds of each donor holds of each in the ranking
  pub ranking_all : (P : ℕ → Type 0) (rows : List (List Value)) (donors : List ℕ) (row : List Value) (kept near : ℕ)
      → All P donors → All P (ranking_of yardsticks rows donors row kept near)
  ranking_all P rows donors row kept near all =
      let nearer = is_nearer (distance_to yardsticks rows row kept) in
      All-take P near (in_order nearer donors) (All-permutation P donors (in_order nearer donors) (order_moves nearer donors) all)

  -- each in the ranking is one of the donors
  pub ranking_among : (rows : List (List Value)) (donors : List ℕ) (row : List Value) (kept near : ℕ)
      → All (Contains donors) (ranking_of yardsticks rows donors row kept near)
  ranking_among rows donors row kept near = ranking_all (Contains donors) rows donors row kept near (All-contains_itself donors)

  -- each in the ranking is the number of a clean row
  pub ranking-donors : (survey : SurveyParts) (rows : List (List Value)) (row : List Value) (kept near : ℕ)
      → All (IsCleanRow survey rows) (ranking_of yardsticks rows (donors_of survey rows) row kept near)
  ranking-donors survey rows row kept near = ranking_all (IsCleanRow survey rows) rows (donors_of survey rows) row kept near (donors_clean survey rows)

  -- there are no more than are asked for
  pub ranking-few : (rows : List (List Value)) (donors : List ℕ) (row : List Value) (kept near : ℕ)
      → length (ranking_of yardsticks rows donors row kept near) ≤ near
  ranking-few rows donors row kept near = let l = length-take near (in_order (is_nearer (distance_to yardsticks rows row kept)) donors) in omega (arith, l)

  -- donors that differ stand in the ranking once
  pub ranking_distinct : (rows : List (List Value)) (donors : List ℕ) (row : List Value) (kept near : ℕ)
      → IsDistinct nat_eq donors → IsDistinct nat_eq (ranking_of yardsticks rows donors row kept near)
  ranking_distinct rows donors row kept near once =
      let nearer = is_nearer (distance_to yardsticks rows row kept) in
      once_taken near (in_order nearer donors)
      (IsDistinct-IsPermutation nat_eq nat_eq_equiv.symm donors (in_order nearer donors) (order_moves nearer donors) once)

  -- no clean row stands in it twice
  pub ranking-once : (survey : SurveyParts) (rows : List (List Value)) (row : List Value) (kept near : ℕ)
      → IsDistinct nat_eq (ranking_of yardsticks rows (donors_of survey rows) row kept near)
  ranking-once survey rows row kept near =
      ranking_distinct rows (donors_of survey rows) row kept near (once_rising (donors_of survey rows) (all-rise (is_clean survey) rows))
