use Rattle.std.proofs.Common.{◌≡◌, ◌≢◌, ◌⊎◌, ℕ, ◌++◌, List, [], ◌∷◌, inl, inr, ⊎_elim, refl, sym, ap, ◌∙◌, subst}
use Rattle.std.specs.List.Sorted.{IsPermutation}
use Rattle.std.proofs.lemmas.List.Sorted.{IsPermutation-refl, IsPermutation-cons, IsPermutation-middle, IsPermutation-sym, IsPermutation-trans}
use Rattle.edit_line.specs.Reductions.{IsIn}
use Rattle.edit_line.proofs.Members.{in-left, in-right, in-either}

-- Two lists that have the same elements, each once, are the same but for the order.

-- a list is split at an element of it
split-at : {X : Type 0} (x : X) (ys : List X) → IsIn x ys → (left : List X) × (right : List X) × (ys ≡ left ++ x ∷ right)
split-at x [] there = absurd there
split-at x (y ∷ ys) (inl same) = ([], ys, ap (λ z. z ∷ ys) (sym same))
split-at x (y ∷ ys) (inr there) = let rest = split-at x ys there in (y ∷ rest.0, rest.1, ap (λ zs. y ∷ zs) rest.2)

module _ {X : Type 0} (key : X → ℕ) where
  -- no element of the list has this key
  abbrev pub Lacks : ℕ → List X → Type 0
  Lacks k xs = (x : X) → IsIn x xs → key x ≢ k

  -- no key stands twice
  abbrev pub AreApart : List X → Type 0
  AreApart [] = Unit {0}
  AreApart (x ∷ xs) = Lacks (key x) xs × AreApart xs

  -- an element is known by its key
  pub same-by-key : (xs : List X) (a b : X) → AreApart xs → IsIn a xs → IsIn b xs → key a ≡ key b → a ≡ b
  same-by-key [] a b apart in-a in-b same = absurd in-a
  same-by-key (x ∷ xs) a b apart (inl a-is) (inl b-is) same = a-is ∙ sym b-is
  same-by-key (x ∷ xs) a b apart (inl a-is) (inr in-b) same = absurd (apart.0 b in-b (sym same ∙ ap key a-is))
  same-by-key (x ∷ xs) a b apart (inr in-a) (inl b-is) same = absurd (apart.0 a in-a (same ∙ ap key b-is))
  same-by-key (x ∷ xs) a b apart (inr in-a) (inr in-b) same = same-by-key xs a b apart.1 in-a in-b same

  -- an element of the rest is one of the whole
  with-middle : (x z : X) (left right : List X) → IsIn z (left ++ right) → IsIn z (left ++ x ∷ right)
  with-middle x z left right there =
      ⊎_elim (λ (l : IsIn z left). in-left z left (x ∷ right) l) (λ (r : IsIn z right). in-right z left (x ∷ right) (inr r)) (in-either z left right there)

  -- one of the whole is the middle, or one of the rest
  middle-or : (x z : X) (left right : List X) → IsIn z (left ++ x ∷ right) → (z ≡ x) ⊎ IsIn z (left ++ right)
  middle-or x z left right there = by (in-either z left (x ∷ right) there)
    where
      by : IsIn z left ⊎ IsIn z (x ∷ right) → (z ≡ x) ⊎ IsIn z (left ++ right)
      by (inl l) = inr (in-left z left right l)
      by (inr (inl same)) = inl same
      by (inr (inr r)) = inr (in-right z left right r)

  -- without an element the keys are apart still, and none of them is its
  apart-middle : (x : X) (left right : List X) → AreApart (left ++ x ∷ right) → AreApart (left ++ right) × Lacks (key x) (left ++ right)
  apart-middle x [] right apart = (apart.1, apart.0)
  apart-middle x (y ∷ left) right apart =
      let rest = apart-middle x left right apart.1 in (
        ((λ z there. apart.0 z (with-middle x z left right there)), rest.0),
        λ z there. by z there rest.1,
      )
    where
      by : (z : X) → IsIn z (y ∷ (left ++ right)) → Lacks (key x) (left ++ right) → key z ≢ key x
      by z (inl same) lacks is = apart.0 x (in-right x left (x ∷ right) (inl refl)) (sym is ∙ ap key same)
      by z (inr there) lacks is = lacks z there is

  -- what is not the first is in the rest
  in-rest : (x z : X) (xs : List X) → key z ≢ key x → IsIn z (x ∷ xs) → IsIn z xs
  in-rest x z xs apart (inl same) = absurd (apart (ap key same))
  in-rest x z xs apart (inr there) = there

  -- what is not the middle is in the rest
  not-middle : (x z : X) (left right : List X) → key z ≢ key x → (z ≡ x) ⊎ IsIn z (left ++ right) → IsIn z (left ++ right)
  not-middle x z left right apart (inl same) = absurd (apart (ap key same))
  not-middle x z left right apart (inr there) = there

  pub same-elements : (xs ys : List X) → AreApart xs → AreApart ys → ((x : X) → IsIn x xs → IsIn x ys) → ((y : X) → IsIn y ys → IsIn y xs) → IsPermutation xs ys
  same-elements [] [] apart-xs apart-ys to back = IsPermutation-refl []
  same-elements [] (y ∷ ys) apart-xs apart-ys to back = absurd (back y (inl refl))
  same-elements (x ∷ xs) ys apart-xs apart-ys to back =
      let (left, right, is) = split-at x ys (to x (inl refl)) in
      let apart = apart-middle x left right (subst AreApart is apart-ys) in
      let rest = same-elements xs (left ++ right) apart-xs.1 apart.0
      (λ z there. not-middle x z left right (apart-xs.0 z there) (middle-or x z left right (subst (IsIn z) is (to z (inr there)))))
      (λ z there. in-rest x z xs (apart.1 z there) (back z (subst (IsIn z) (sym is) (with-middle x z left right there)))) in
      subst (IsPermutation (x ∷ xs)) (sym is)
      (IsPermutation-trans (x ∷ xs) (x ∷ (left ++ right)) (left ++ x ∷ right) (IsPermutation-cons x xs (left ++ right) rest)
      (IsPermutation-sym (left ++ x ∷ right) (x ∷ (left ++ right)) (IsPermutation-middle left x right)))
