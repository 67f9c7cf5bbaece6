use Rattle.std.proofs.Common.{◌≡◌, ℕ, ◌||◌, Bool, true, false, not, if◌then◌else◌, List, [], ◌∷◌, ◌++◌, inl, inr, refl, sym, ap, ◌∙◌}
use Rattle.std.specs.List.{filter, fold, list_any}
use Rattle.std.proofs.lemmas.List.{map-append}
use Rattle.std.proofs.lemmas.List.Folds.{list_any-append}
use Rattle.std.proofs.lemmas.Map.Views.{any-filter_same}
use Rattle.edit_line.specs.Reductions.{IsIn}
use Rattle.edit_line.specs.Sets.{are_subsets}
use Rattle.edit_line.proofs.Members.{in-any, in-reduced, in-taken}
use Rattle.categ_combine.specs.BoxLists.{reduce_boxes, reduce_from, sets_of, with_box, with_from}
use Rattle.categ_combine.specs.declared.box_from.BoxFrom.{BoxFrom}
use Rattle.edit_line.proofs.TestLists.{any-map, or_grouped, or_none}

-- Boxes without those that lie inside another.

-- an element that passes shows that some element does
any_in : {X : Type 0} (t : X → Bool) (x : X) (xs : List X) → IsIn x xs → t x ≡ true → list_any t xs ≡ true
any_in t x [] there passes = absurd there
any_in t x (y ∷ ys) (inl same) passes = ap (λ b. b || list_any t ys) (ap t (sym same) ∙ passes)
any_in t x (y ∷ ys) (inr there) passes = ap (λ b. t y || b) (any_in t x ys there passes) ∙ or_true (t y)
  where
    or_true : (b : Bool) → (b || true) ≡ true
    or_true true = refl
    or_true false = refl

-- what passes inside a box passes of the box too
abbrev pub IsMonotone : (List ℕ → Bool) → Type 0
IsMonotone t = (b c : List ℕ) → are_subsets b c ≡ true → t b ≡ true → t c ≡ true

module _ (t : List ℕ → Bool) (grows : IsMonotone t) where
  -- one box more
  pub any-with_box : (kept : List (List ℕ)) (box : List ℕ) → list_any t (with_box kept box) ≡ (list_any t kept || t box)
  any-with_box kept box = by (list_any (λ b. are_subsets box b) kept) refl (t box) refl
    where
      left : List (List ℕ)
      left = filter (λ b. not (are_subsets b box)) kept

      by : (inside : Bool) → list_any (λ b. are_subsets box b) kept ≡ inside → (passes : Bool) → t box ≡ passes
          → list_any t (if inside then kept else left ++ box ∷ []) ≡ (list_any t kept || passes)
      by true e true f = let (b, there, lies) = in-any (λ b. are_subsets box b) kept e in any_in t b kept there (grows box b lies f)
          ∙ sym (or_true (list_any t kept))
        where
          or_true : (b : Bool) → (b || true) ≡ true
          or_true true = refl
          or_true false = refl
      by true e false f = sym (or_none (list_any t kept))
      by false e true f =
          list_any-append t left (box ∷ []) ∙ ap (λ b. list_any t left || (b || false)) f ∙ or_true (list_any t left) ∙ sym (or_true (list_any t kept))
        where
          or_true : (b : Bool) → (b || true) ≡ true
          or_true true = refl
          or_true false = refl
      by false e false f =
          list_any-append t left (box ∷ []) ∙ ap (λ b. list_any t left || (b || false)) f
          ∙ ap (λ b. b || false) (any-filter_same t (λ b. not (are_subsets b box)) true stays kept)
        where
          stays : (b : List ℕ) → t b ≡ true → not (are_subsets b box) ≡ true
          stays b passes = by_test (are_subsets b box) refl
            where
              by_test : (i : Bool) → are_subsets b box ≡ i → not i ≡ true
              by_test true lies = absurd (cc (sym f ∙ grows b box lies passes))
              by_test false lies = refl

  any-fold : (kept boxes : List (List ℕ)) → list_any t (fold with_box kept boxes) ≡ (list_any t kept || list_any t boxes)
  any-fold kept [] = sym (or_none (list_any t kept))
  any-fold kept (box ∷ boxes) =
      any-fold (with_box kept box) boxes ∙ ap (λ b. b || list_any t boxes) (any-with_box kept box) ∙ or_grouped (list_any t kept) (t box) (list_any t boxes)

  -- some reduced box passes exactly where some box does
  pub any-reduce : (boxes : List (List ℕ)) → list_any t (reduce_boxes boxes) ≡ list_any t boxes
  any-reduce boxes = any-fold [] boxes

-- ---- each reduced box is one of the boxes

pub in-reduce : (box : List ℕ) (boxes : List (List ℕ)) → IsIn box (reduce_boxes boxes) → IsIn box boxes
in-reduce box boxes h = in-reduced with_box (λ x new kept. in-taken (list_any (λ b. are_subsets new b) kept) (λ b. not (are_subsets b new)) x new kept) box
    boxes h

-- the same of boxes with their origins
pub in-reduce_from : (box : BoxFrom) (boxes : List BoxFrom) → IsIn box (reduce_from boxes) → IsIn box boxes
in-reduce_from box boxes h =
    in-reduced with_from (λ x new kept. in-taken (list_any (λ (b : BoxFrom). are_subsets new.code_box.sets b.code_box.sets) kept)
    (λ (b : BoxFrom). not (are_subsets b.code_box.sets new.code_box.sets)) x new kept) box boxes h

-- ---- without the origins

sets-filter : (p : List ℕ → Bool) (boxes : List BoxFrom) → sets_of (filter (λ (b : BoxFrom). p b.code_box.sets) boxes) ≡ filter p (sets_of boxes)
sets-filter p [] = refl
sets-filter p (b ∷ boxes) = by (p b.code_box.sets) (sets-filter p boxes)
  where
    by : (t : Bool) → sets_of (filter (λ (b : BoxFrom). p b.code_box.sets) boxes) ≡ filter p (sets_of boxes)
        → sets_of (if t then b ∷ filter (λ (b : BoxFrom). p b.code_box.sets) boxes else filter (λ (b : BoxFrom). p b.code_box.sets) boxes)
        ≡ (if t then b.code_box.sets ∷ filter p (sets_of boxes) else filter p (sets_of boxes))
    by true e = ap (λ bs. b.code_box.sets ∷ bs) e
    by false e = e

pub sets-with_from : (kept : List BoxFrom) (new : BoxFrom) → sets_of (with_from kept new) ≡ with_box (sets_of kept) new.code_box.sets
sets-with_from kept new =
    by (list_any (λ (b : BoxFrom). are_subsets new.code_box.sets b.code_box.sets) kept)
    ∙ ap (λ t. if t then sets_of kept else filter (λ b. not (are_subsets b new.code_box.sets)) (sets_of kept) ++ new.code_box.sets ∷ [])
    (sym (any-map (λ b. are_subsets new.code_box.sets b) (λ (b : BoxFrom). b.code_box.sets) kept))
  where
    by : (t : Bool) → sets_of (if t then kept else filter (λ (b : BoxFrom). not (are_subsets b.code_box.sets new.code_box.sets)) kept ++ new ∷ [])
        ≡ (if t then sets_of kept else filter (λ b. not (are_subsets b new.code_box.sets)) (sets_of kept) ++ new.code_box.sets ∷ [])
    by true = refl
    by false =
        map-append (λ (b : BoxFrom). b.code_box.sets) (filter (λ (b : BoxFrom). not (are_subsets b.code_box.sets new.code_box.sets)) kept) (new ∷ [])
        ∙ ap (λ bs. bs ++ new.code_box.sets ∷ []) (sets-filter (λ b. not (are_subsets b new.code_box.sets)) kept)

sets-fold : (kept boxes : List BoxFrom) → sets_of (fold with_from kept boxes) ≡ fold with_box (sets_of kept) (sets_of boxes)
sets-fold kept [] = refl
sets-fold kept (new ∷ boxes) = sets-fold (with_from kept new) boxes ∙ ap (λ bs. fold with_box bs (sets_of boxes)) (sets-with_from kept new)

pub sets-reduce : (boxes : List BoxFrom) → sets_of (reduce_from boxes) ≡ reduce_boxes (sets_of boxes)
sets-reduce boxes = sets-fold [] boxes
