use Rattle.std.proofs.Common.{Bool, List, [], ap, arith, false, if◌then◌else◌, inl, inr, refl, subst, sym, true, ℕ, ◌&&◌, ◌++◌, ◌+◌, ◌<◌, ◌∙◌, ◌∷◌, ◌≡◌, ◌⊎◌}
use Rattle.std.specs.List.{fold, sum_by}
use Rattle.std.specs.List.Sorted.{IsPermutation}
use Rattle.std.proofs.lemmas.List.Sorted.{IsPermutation-append_right, IsPermutation-cons, IsPermutation-middle, IsPermutation-refl, IsPermutation-sym}
use Rattle.std.proofs.lemmas.List.Sorted.{IsPermutation-trans, sum_by-IsPermutation}
use Rattle.std.proofs.lemmas.List.Sums.{sum_by-append, sum_by-cons}
use Rattle.edit_line.specs.Reductions.{IsIn}
use Rattle.edit_paths.specs.ReachedPaths.{AreInOrder, in_order, placed}

-- A list in order: it has the elements of the list, each as often, and is the only such list.

module _ {X : Type 0} (before : X → X → Bool) (total : (x y : X) → before x y ≡ false → before y x ≡ true) (chain : (x y z : X) → before x y ≡ true → before y z
    ≡ true → before x z ≡ true)
    (equal : (x y : X) → before x y ≡ true → before y x ≡ true → x ≡ y) where
  self : (x : X) → before x x ≡ true
  self x = by (before x x) refl
    where
      by : (b : Bool) → before x x ≡ b → b ≡ true
      by true e = refl
      by false e = absurd (cc (sym e ∙ total x x e))

  abbrev is : X → X → ℕ
  is a x = if before a x && before x a then 1 else 0

  -- how often the element stands in a list
  abbrev pub count : X → List X → ℕ
  count a xs = sum_by (is a) xs

  count-cons : (a x : X) (xs : List X) → count a (x ∷ xs) ≡ is a x + count a xs
  count-cons a x xs = sum_by-cons (is a) x xs

  is-self : (x : X) → is x x ≡ 1
  is-self x = ap (λ b. if b && b then 1 else 0) (self x)

  -- an element that stands in a list
  counted-in : (a : X) (xs : List X) → 0 < count a xs → IsIn a xs
  counted-in a [] some = absurd (omega (arith, some))
  counted-in a (x ∷ xs) some = by (before a x) refl (before x a) refl (counted-in a xs)
    where
      by : (b : Bool) → before a x ≡ b → (d : Bool) → before x a ≡ d → (0 < count a xs → IsIn a xs) → (a ≡ x) ⊎ IsIn a xs
      by true e true f rest = inl (equal a x e f)
      by true e false f rest = let none : is a x ≡ 0 = rw (e, f) refl in inr (rest (omega (arith, some, none, count-cons a x xs)))
      by false e d f rest = let none : is a x ≡ 0 = ap (λ b. if b && before x a then 1 else 0) e in inr (rest (omega (arith, some, none, count-cons a x xs)))

  in-counted : (a : X) (xs : List X) → IsIn a xs → 0 < count a xs
  in-counted a [] there = absurd there
  in-counted a (x ∷ xs) (inl same) = let one : is a x ≡ 1 = subst (λ (y : X). is a y ≡ 1) same (is-self a) in omega (arith, one, count-cons a x xs)
  in-counted a (x ∷ xs) (inr there) = let rest = in-counted a xs there in omega (arith, rest, count-cons a x xs)

  -- two lists in order with the same elements are the same
  pub same-sorted : (xs ys : List X) → AreInOrder before xs → AreInOrder before ys → ((a : X) → count a xs ≡ count a ys) → xs ≡ ys
  same-sorted [] [] first second same = refl
  same-sorted [] (y ∷ ys) first second same = let some = in-counted y (y ∷ ys) (inl refl) in absurd (omega (arith, some, same y))
  same-sorted (x ∷ xs) [] first second same = let some = in-counted x (x ∷ xs) (inl refl) in absurd (omega (arith, some, same x))
  same-sorted (x ∷ xs) (y ∷ ys) first second same = heads ∙ ap (λ (zs : List X). y ∷ zs) (same-sorted xs ys first.1 second.1 rest)
    where
      least : (u v : X) (us : List X) → AreInOrder before (v ∷ us) → IsIn u (v ∷ us) → before v u ≡ true
      least u v us sorted (inl e) = subst (λ (w : X). before v w ≡ true) (sym e) (self v)
      least u v us sorted (inr there) = sorted.0 u there

      head : x ≡ y
      head =
          let some = in-counted x (x ∷ xs) (inl refl) in
          let other = in-counted y (y ∷ ys) (inl refl) in
          equal x y (least y x xs first (counted-in y (x ∷ xs) (omega (arith, other, same y))))
          (least x y ys second (counted-in x (y ∷ ys) (omega (arith, some, same x))))

      heads : (x ∷ xs) ≡ (y ∷ xs)
      heads = ap (λ (z : X). z ∷ xs) head

      rest : (a : X) → count a xs ≡ count a ys
      rest a = let e : is a x ≡ is a y = ap (λ (z : X). is a z) head in omega (arith, e, same a, count-cons a x xs, count-cons a y ys)

  -- ---- the sorted list

  count-placed : (a x : X) (ys : List X) → count a (placed before ys x) ≡ is a x + count a ys
  count-placed a x [] = count-cons a x []
  count-placed a x (y ∷ ys) = by (before y x) (count-placed a x ys)
    where
      by : (b : Bool) → count a (placed before ys x) ≡ is a x + count a ys → count a (if b then y ∷ placed before ys x else x ∷ y ∷ ys)
          ≡ is a x + count a (y ∷ ys)
      by true rest = omega (arith, rest, count-cons a y (placed before ys x), count-cons a y ys)
      by false rest = count-cons a x (y ∷ ys)

  count-folded : (a : X) (done xs : List X) → count a (fold (placed before) done xs) ≡ count a done + count a xs
  count-folded a done [] = omega arith
  count-folded a done (x ∷ xs) = let rest = count-folded a (placed before done x) xs in omega (arith, rest, count-placed a x done, count-cons a x xs)

  pub count-in_order : (a : X) (xs : List X) → count a (in_order before xs) ≡ count a xs
  count-in_order a xs = let all = count-folded a [] xs in omega (arith, all)

  in-placed : (z x : X) (ys : List X) → IsIn z (placed before ys x) → (z ≡ x) ⊎ IsIn z ys
  in-placed z x [] there = there
  in-placed z x (y ∷ ys) there = by (before y x) (in-placed z x ys) there
    where
      by : (b : Bool) → (IsIn z (placed before ys x) → (z ≡ x) ⊎ IsIn z ys) → IsIn z (if b then y ∷ placed before ys x else x ∷ y ∷ ys) → (z ≡ x)
          ⊎ ((z ≡ y) ⊎ IsIn z ys)
      by true rest (inl e) = inr (inl e)
      by true rest (inr later) = elim (rest later) [ inl e ↦ inl e | inr at ↦ inr (inr at) ]
      by false rest h = h

  placed-sorted : (x : X) (ys : List X) → AreInOrder before ys → AreInOrder before (placed before ys x)
  placed-sorted x [] sorted = (λ y none. absurd none, tt)
  placed-sorted x (y ∷ ys) sorted = by (before y x) refl (placed-sorted x ys sorted.1)
    where
      by : (b : Bool) → before y x ≡ b → AreInOrder before (placed before ys x) → AreInOrder before (if b then y ∷ placed before ys x else x ∷ y ∷ ys)
      by true e rest = (
        λ z there. elim (in-placed z x ys there) [ inl same ↦ subst (λ (w : X). before y w ≡ true) (sym same) e | inr at ↦ sorted.0 z at ],
        rest,
      )
      by false e rest =
          let first = total y x e in (
            λ z there. elim there [ inl same ↦ subst (λ (w : X). before x w ≡ true) (sym same) first | inr at ↦ chain x y z first (sorted.0 z at) ],
            sorted,
          )

  pub folded-sorted : (done xs : List X) → AreInOrder before done → AreInOrder before (fold (placed before) done xs)
  folded-sorted done [] sorted = sorted
  folded-sorted done (x ∷ xs) sorted = folded-sorted (placed before done x) xs (placed-sorted x done sorted)

  pub in_order-sorted : (xs : List X) → AreInOrder before (in_order before xs)
  in_order-sorted xs = folded-sorted [] xs tt

  pub in-folded : (z : X) (done xs : List X) → IsIn z (fold (placed before) done xs) → IsIn z done ⊎ IsIn z xs
  in-folded z done [] there = inl there
  in-folded z done (x ∷ xs) there = elim (in-folded z (placed before done x) xs there) [
    | inl at ↦ elim (in-placed z x done at) [ inl same ↦ inr (inl same) | inr old ↦ inl old ]
    | inr at ↦ inr (inr at)
  ]

  -- elements that are placed among others
  permuted-placed : (x : X) (ys : List X) → IsPermutation (x ∷ ys) (placed before ys x)
  permuted-placed x [] = IsPermutation-refl (x ∷ [])
  permuted-placed x (y ∷ ys) = by (before y x) (permuted-placed x ys)
    where
      by : (b : Bool) → IsPermutation (x ∷ ys) (placed before ys x) → IsPermutation (x ∷ y ∷ ys) (if b then y ∷ placed before ys x else x ∷ y ∷ ys)
      by true rest = IsPermutation-trans _ _ _ (IsPermutation-middle (x ∷ []) y ys) (IsPermutation-cons y _ _ rest)
      by false rest = IsPermutation-refl (x ∷ y ∷ ys)

  pub permuted-folded : (done xs : List X) → IsPermutation (xs ++ done) (fold (placed before) done xs)
  permuted-folded done [] = IsPermutation-refl done
  permuted-folded done (x ∷ xs) =
      IsPermutation-trans _ _ _ (IsPermutation-sym _ _ (IsPermutation-middle xs x done))
      (IsPermutation-trans _ _ _ (IsPermutation-append_right xs _ _ (permuted-placed x done)) (permuted-folded (placed before done x) xs))

  -- ---- what follows

  -- lists with the same elements have the same order
  pub same-order : (xs ys : List X) → ((a : X) → count a xs ≡ count a ys) → in_order before xs ≡ in_order before ys
  same-order xs ys same = same-sorted (in_order before xs) (in_order before ys) (in_order-sorted xs) (in_order-sorted ys)
      (λ a. count-in_order a xs ∙ same a ∙ sym (count-in_order a ys))

  pub permuted-order : (xs ys : List X) → IsPermutation xs ys → in_order before xs ≡ in_order before ys
  permuted-order xs ys moved = same-order xs ys (λ a. sym (sum_by-IsPermutation (is a) xs ys moved))

  -- the elements of the sorted list
  pub in-order : (x : X) (xs : List X) → IsIn x xs → IsIn x (in_order before xs)
  in-order x xs there = let some = in-counted x xs there in counted-in x (in_order before xs) (omega (arith, some, count-in_order x xs))

  pub out-order : (x : X) (xs : List X) → IsIn x (in_order before xs) → IsIn x xs
  out-order x xs there = let some = in-counted x (in_order before xs) there in counted-in x xs (omega (arith, some, count-in_order x xs))

  -- an element that comes before all others is the first
  pub least-first : (x : X) (xs : List X) → ((y : X) → IsIn y xs → before x y ≡ true) → in_order before (x ∷ xs) ≡ x ∷ in_order before xs
  least-first x xs least =
      same-sorted (in_order before (x ∷ xs)) (x ∷ in_order before xs) (in_order-sorted (x ∷ xs)) (λ y there. least y (out-order y xs there), in_order-sorted xs)
      (λ a. count-in_order a (x ∷ xs) ∙ count-cons a x xs ∙ sym (count-cons a x (in_order before xs) ∙ ap (λ n. is a x + n) (count-in_order a xs)))

  pub count-append : (a : X) (xs ys : List X) → count a (xs ++ ys) ≡ count a xs + count a ys
  count-append a xs ys = sum_by-append (is a) xs ys

  pub count-more : (a x : X) (xs : List X) → count a (x ∷ xs) ≡ is a x + count a xs
  count-more a x xs = count-cons a x xs
