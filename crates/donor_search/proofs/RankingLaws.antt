use Rattle.std.proofs.Common.{◌≡◌, ℕ, zero, suc, ◌+◌, ◌<◌, ◌≤◌, Bool, true, false, not, cond, nat_lt, Some, None, List, [], ◌∷◌, ◌++◌, get_or, length, map}
use Rattle.std.proofs.Common.{take, refl, sym, ap, ◌∙◌, arith}
use Rattle.std.specs.List.{fold, insert, position, position_or_len, prefix_len, take-map}
use Rattle.std.proofs.lemmas.List.{length-take, map_more, take_all}
use Rattle.std.proofs.lemmas.List.Sums.{fold_push, prefix_len-le-length}
use Rattle.donor_search.specs.inner.Candidates.{candidate_of, is_before}
use Rattle.donor_search.specs.Rankings.{in_order, is_nearer, placed}
use Rattle.donor_search.specs.declared.candidate.Candidate.{Candidate}

-- The first of a list in order, kept in a buffer.

module _ {X : Type 0} (before : X → X → Bool) where
  -- where x is put, step by step
  pub placed-cons : (x y : X) (ys : List X) → placed before x (y ∷ ys) ≡ cond (before x y) (x ∷ y ∷ ys) (y ∷ placed before x ys)
  placed-cons x y ys = by (before x y)
    where
      by : (b : Bool) → insert (y ∷ ys) (cond (not b) (1 + prefix_len (λ z. not (before x z)) ys) 0) x ≡ cond b (x ∷ y ∷ ys) (y ∷ placed before x ys)
      by true = refl
      by false = let next : 1 + prefix_len (λ z. not (before x z)) ys ≡ suc (position_or_len (before x) ys) = omega arith in ap (λ n. insert (y ∷ ys) n x) next

  take_twice : (n : ℕ) (y : X) (ys : List X) → take n (y ∷ take n ys) ≡ take n (y ∷ ys)
  take_twice zero y ys = refl
  take_twice (suc n) y ys = ap (λ zs. y ∷ zs) (again n ys)
    where
      again : (n : ℕ) (ys : List X) → take n (take (suc n) ys) ≡ take n ys
      again zero ys = refl
      again (suc n) [] = refl
      again (suc n) (y ∷ ys) = ap (λ zs. y ∷ zs) (again n ys)

  -- what is behind the first n does not come among them
  placed-take : (n : ℕ) (x : X) (ys : List X) → take n (placed before x ys) ≡ take n (placed before x (take n ys))
  placed-take zero x ys = refl
  placed-take (suc n) x [] = refl
  placed-take (suc n) x (y ∷ ys) = ap (take (suc n)) (placed-cons x y ys) ∙ by (before x y) (placed-take n x ys)
      ∙ sym (ap (take (suc n)) (placed-cons x y (take n ys)))
    where
      by : (b : Bool) → take n (placed before x ys) ≡ take n (placed before x (take n ys))
          → take (suc n) (cond b (x ∷ y ∷ ys) (y ∷ placed before x ys)) ≡ take (suc n) (cond b (x ∷ y ∷ take n ys) (y ∷ placed before x (take n ys)))
      by true rest = ap (λ zs. x ∷ zs) (sym (take_twice n y ys))
      by false rest = ap (λ zs. y ∷ zs) rest

  -- one more in order
  pub order_more : (near : ℕ) (xs : List X) (kept : List X) (x : X) → kept ≡ take near (in_order before xs)
      → take near (placed before x kept) ≡ take near (in_order before (xs ++ x ∷ []))
  order_more near xs kept x is =
      ap (λ ks. take near (placed before x ks)) is
      ∙ sym (placed-take near x (in_order before xs))
      ∙ ap (take near) (sym (fold_push (λ ordered y. placed before y ordered) [] xs x))

-- ---- the place of an element

pub place_none : {X : Type 0} (p : X → Bool) (xs : List X) → None ≡ position p xs → length xs ≡ position_or_len p xs
place_none p xs is =
    let most = prefix_len-le-length (λ x. not (p x)) xs in
    let least = by (nat_lt (position_or_len p xs) (length xs)) refl is in omega (arith, most, least)
  where
    by : (b : Bool) → nat_lt (position_or_len p xs) (length xs) ≡ b → None ≡ cond b (Some (position_or_len p xs)) None → length xs ≤ position_or_len p xs
    by true at e = absurd (cc)
    by false at e = grind (arith, at)

-- ---- candidates and donors

module _ (far : ℕ → ℕ) where
  placed-map : (x : ℕ) (ys : List ℕ) → placed is_before (candidate_of far x) (map (candidate_of far) ys) ≡ map (candidate_of far) (placed (is_nearer far) x ys)
  placed-map x [] = refl
  placed-map x (y ∷ ys) =
      placed-cons is_before (candidate_of far x) (candidate_of far y) (map (candidate_of far) ys)
      ∙ by (is_nearer far x y) (placed-map x ys)
      ∙ ap (map (candidate_of far)) (sym (placed-cons (is_nearer far) x y ys))
    where
      by : (b : Bool) → placed is_before (candidate_of far x) (map (candidate_of far) ys) ≡ map (candidate_of far) (placed (is_nearer far) x ys)
          → cond b (candidate_of far x ∷ map (candidate_of far) (y ∷ ys))
          (candidate_of far y ∷ placed is_before (candidate_of far x) (map (candidate_of far) ys)) ≡ map (candidate_of far)
          (cond b (x ∷ y ∷ ys) (y ∷ placed (is_nearer far) x ys))
      by true rest = refl
      by false rest = ap (λ cs. candidate_of far y ∷ cs) rest

  pub order-map : (xs ys : List ℕ)
      → fold (λ ordered c. placed is_before c ordered) (map (candidate_of far) ys) (map (candidate_of far) xs) ≡ map (candidate_of far)
      (fold (λ ordered x. placed (is_nearer far) x ordered) ys xs)
  order-map [] ys = refl
  order-map (x ∷ xs) ys = ap (λ cs. fold (λ ordered c. placed is_before c ordered) cs (map (candidate_of far) xs)) (placed-map x ys)
      ∙ order-map xs (placed (is_nearer far) x ys)

  pub names : (xs : List ℕ) → map (λ (c : Candidate). c.donor) (map (candidate_of far) xs) ≡ xs
  names [] = refl
  names (x ∷ xs) = ap (λ ys. x ∷ ys) (names xs)

  -- the names of the first candidates in order are the ranking
  pub ranking_is : (near : ℕ) (donors : List ℕ) (nearest : List Candidate) → nearest ≡ take near (in_order is_before (map (candidate_of far) donors))
      → map (λ (c : Candidate). c.donor) nearest ≡ take near (in_order (is_nearer far) donors)
  ranking_is near donors nearest is =
      ap (map (λ (c : Candidate). c.donor)) (is ∙ ap (take near) (order-map donors []) ∙ take-map (candidate_of far) near (in_order (is_nearer far) donors))
      ∙ names (take near (in_order (is_nearer far) donors))

  -- one donor more is ranked
  pub ranked_more : (near : ℕ) (donors : List ℕ) (i donor : ℕ) (old new : List Candidate) → i < length donors → donor ≡ get_or donors i 0
      → old ≡ take near (in_order is_before (map (candidate_of far) (take i donors))) → new ≡ take near (placed is_before (candidate_of far donor) old)
      → new ≡ take near (in_order is_before (map (candidate_of far) (take (i + 1) donors)))
  ranked_more near donors i donor old new below at before put =
      put
      ∙ order_more is_before near (map (candidate_of far) (take i donors)) old (candidate_of far donor) before
      ∙ ap (λ n. take near (in_order is_before (map (candidate_of far) (take i donors) ++ candidate_of far n ∷ []))) at
      ∙ ap (λ cs. take near (in_order is_before cs)) (sym (map_more (candidate_of far) donors i 0 below))

  -- and no donor more
  pub ranked_all : (near : ℕ) (donors : List ℕ) (i : ℕ) (nearest : List Candidate) → length donors ≤ i
      → nearest ≡ take near (in_order is_before (map (candidate_of far) (take i donors)))
      → map (λ (c : Candidate). c.donor) nearest ≡ take near (in_order (is_nearer far) donors)
  ranked_all near donors i nearest end is =
      ranking_is near donors nearest (is ∙ ap (λ ds. take near (in_order is_before (map (candidate_of far) ds))) (take_all i donors end))

pub few_taken : (near : ℕ) (xs new : List Candidate) → new ≡ take near xs → length new ≤ near
few_taken near xs new is = let l = ap (λ (cs : List Candidate). length cs) is ∙ length-take near xs in omega (arith, l)
