use Rattle.std.proofs.Common.{◌≡◌, ℕ, zero, suc, ◌++◌, ◌||◌, Bool, true, false, if◌then◌else◌, List, [], ◌∷◌, All, Some, map, slice_get, ◌⊎◌, inl, inr, refl}
use Rattle.std.proofs.Common.{sym, ap, ◌∙◌, subst, arith}
use Rattle.std.specs.List.{filter, flat_map, fold, list_any}
use Rattle.edit_line.specs.Reductions.{IsIn}
use Rattle.edit_line.proofs.BoolLaws.{true-first, true-second}

-- Elements of lists.

pub in-left : {X : Type 0} (x : X) (xs ys : List X) → IsIn x xs → IsIn x (xs ++ ys)
in-left x [] ys h = absurd h
in-left x (z ∷ xs) ys (inl e) = inl e
in-left x (z ∷ xs) ys (inr h) = inr (in-left x xs ys h)

pub in-right : {X : Type 0} (x : X) (xs ys : List X) → IsIn x ys → IsIn x (xs ++ ys)
in-right x [] ys h = h
in-right x (z ∷ xs) ys h = inr (in-right x xs ys h)

pub in-either : {X : Type 0} (x : X) (xs ys : List X) → IsIn x (xs ++ ys) → IsIn x xs ⊎ IsIn x ys
in-either x [] ys h = inr h
in-either x (z ∷ xs) ys (inl e) = inl (inl e)
in-either x (z ∷ xs) ys (inr h) = elim (in-either x xs ys h) [ inl there ↦ inl (inr there) | inr there ↦ inr there ]

-- what is made of an element stands among what is made of all
pub in-map : {X Y : Type 0} (g : X → Y) (x : X) (xs : List X) → IsIn x xs → IsIn (g x) (map g xs)
in-map g x [] h = absurd h
in-map g x (z ∷ xs) (inl same) = inl (ap g same)
in-map g x (z ∷ xs) (inr there) = inr (in-map g x xs there)

-- and all that stands there is made of an element
pub in-map-out : {X Y : Type 0} (g : X → Y) (y : Y) (xs : List X) → IsIn y (map g xs) → (x : X) × IsIn x xs × (y ≡ g x)
in-map-out g y [] h = absurd h
in-map-out g y (z ∷ xs) (inl same) = (z, inl refl, same)
in-map-out g y (z ∷ xs) (inr there) = let (x, is_in, same) = in-map-out g y xs there in (x, inr is_in, same)

-- the same, where a list is made of each element
pub in-flat_map : {X Y : Type 0} (g : X → List Y) (x : X) (y : Y) (xs : List X) → IsIn x xs → IsIn y (g x) → IsIn y (flat_map g xs)
in-flat_map g x y [] h there = absurd h
in-flat_map {X} {Y} g x y (z ∷ xs) (inl same) there = in-left y (g z) (flat_map g xs) (subst (λ (w : X). IsIn y (g w)) same there)
in-flat_map g x y (z ∷ xs) (inr h) there = in-right y (g z) (flat_map g xs) (in-flat_map g x y xs h there)

pub in-flat_map-out : {X Y : Type 0} (g : X → List Y) (y : Y) (xs : List X) → IsIn y (flat_map g xs) → (x : X) × IsIn x xs × IsIn y (g x)
in-flat_map-out g y [] h = absurd h
in-flat_map-out g y (z ∷ xs) h =
    elim (in-either y (g z) (flat_map g xs) h) [
      | inl here ↦ (z, inl refl, here)
      | inr there ↦ (let (x, is_in, from) = in-flat_map-out g y xs there in (x, inr is_in, from))
    ]

-- an element that passes the test stays in the filtered list
pub in-filter : {X : Type 0} (test : X → Bool) (x : X) (xs : List X) → test x ≡ true → IsIn x xs → IsIn x (filter test xs)
in-filter test x [] passes h = absurd h
in-filter test x (y ∷ ys) passes h = by (test y) refl (in-filter test x ys passes) h
  where
    by : (b : Bool) → test y ≡ b → (IsIn x ys → IsIn x (filter test ys)) → (x ≡ y) ⊎ IsIn x ys → IsIn x (if b then y ∷ filter test ys else filter test ys)
    by true e rest (inl same) = inl same
    by true e rest (inr there) = inr (rest there)
    by false e rest (inl same) = absurd (cc (sym e ∙ ap test (sym same) ∙ passes))
    by false e rest (inr there) = rest there

-- what stays in the filtered list was there, and passes the test
pub in-filter-out : {X : Type 0} (test : X → Bool) (x : X) (xs : List X) → IsIn x (filter test xs) → IsIn x xs × (test x ≡ true)
in-filter-out test x [] h = absurd h
in-filter-out test x (y ∷ ys) h = by (test y) refl (in-filter-out test x ys) h
  where
    by : (b : Bool) → test y ≡ b → (IsIn x (filter test ys) → IsIn x ys × (test x ≡ true)) → IsIn x (if b then y ∷ filter test ys else filter test ys)
        → IsIn x (y ∷ ys) × (test x ≡ true)
    by true e rest (inl same) = (inl same, ap test same ∙ e)
    by true e rest (inr there) = let (was, passes) = rest there in (inr was, passes)
    by false e rest there = let (was, passes) = rest there in (inr was, passes)

-- what is in a list after an element is left out, or taken in and others dropped, was there or is that element
pub in-taken : {X : Type 0} (left_out : Bool) (stays : X → Bool) (x new : X) (kept : List X) → IsIn x (if left_out then kept else filter stays kept ++ new ∷ [])
    → IsIn x kept ⊎ (x ≡ new)
in-taken true stays x new kept there = inl there
in-taken false stays x new kept there = elim (in-either x (filter stays kept) (new ∷ []) there) [
  | inl old ↦ inl (in-filter-out stays x kept old).0
  | inr last ↦ elim last [ inl same ↦ inr same | inr none ↦ absurd none ]
]

-- and so what is left of a list whose elements are all taken so was there
module _ {X : Type 0} (taken : List X → X → List X) (each : (x new : X) (kept : List X) → IsIn x (taken kept new) → IsIn x kept ⊎ (x ≡ new)) where
  in-folded : (x : X) (kept xs : List X) → IsIn x (fold taken kept xs) → IsIn x kept ⊎ IsIn x xs
  in-folded x kept [] h = inl h
  in-folded x kept (new ∷ xs) h = elim (in-folded x (taken kept new) xs h) [
    | inl early ↦ elim (each x new kept early) [ inl old ↦ inl old | inr same ↦ inr (inl same) ]
    | inr late ↦ inr (inr late)
  ]

  pub in-reduced : (x : X) (xs : List X) → IsIn x (fold taken [] xs) → IsIn x xs
  in-reduced x xs h = elim (in-folded x [] xs h) [ inl none ↦ absurd none | inr there ↦ there ]

-- what is read from a list is there
pub in-get : {X : Type 0} (x : X) (xs : List X) (place : ℕ) → slice_get xs place ≡ Some x → IsIn x xs
in-get x [] place e = absurd (cc)
in-get x (y ∷ xs) zero e = inl (cc)
in-get x (y ∷ xs) (suc place) e = inr (in-get x xs place e)

-- an element of a list whose elements all have P
pub in-all : {X : Type 0} (P : X → Type 0) (x : X) (xs : List X) → All P xs → IsIn x xs → P x
in-all P x [] all h = absurd h
in-all P x (y ∷ ys) all (inl same) = subst P (sym same) (all 0 y (omega arith))
in-all P x (y ∷ ys) all (inr there) = in-all P x ys (λ k d below. all (suc k) d (omega arith)) there

-- and the other way round
pub all-in : {X : Type 0} (P : X → Type 0) (xs : List X) → ((x : X) → IsIn x xs → P x) → All P xs
all-in P [] each k d below = absurd (omega arith)
all-in P (x ∷ xs) each zero d below = each x (inl refl)
all-in P (x ∷ xs) each (suc k) d below = all-in P xs (λ y there. each y (inr there)) k d (omega arith)

-- an element that passes where some element does
pub in-any : {X : Type 0} (test : X → Bool) (xs : List X) → list_any test xs ≡ true → (x : X) × IsIn x xs × (test x ≡ true)
in-any test [] h = absurd (cc)
in-any {X} test (y ∷ ys) h = by (test y) refl (in-any test ys) h
  where
    by : (b : Bool) → test y ≡ b → (list_any test ys ≡ true → (x : X) × IsIn x ys × (test x ≡ true)) → (b || list_any test ys) ≡ true → (x : X)
        × IsIn x (y ∷ ys) × (test x ≡ true)
    by true e rest any = (y, inl refl, e)
    by false e rest any = let (x, there, passes) = rest any in (x, inr there, passes)

-- and where an element passes, some does
pub any-in : {X : Type 0} (test : X → Bool) (x : X) (xs : List X) → IsIn x xs → test x ≡ true → list_any test xs ≡ true
any-in test x [] there passes = absurd there
any-in test x (y ∷ ys) (inl same) passes = true-first _ _ (ap test (sym same) ∙ passes)
any-in test x (y ∷ ys) (inr later) passes = true-second _ _ (any-in test x ys later passes)
