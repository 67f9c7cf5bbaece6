use Rattle.std.proofs.Common.{Bool, cond, List, None, Option, Some, [], ap, arith, false, if◌then◌else◌, length, refl, suc, sym, true, ℕ, ◌&&◌, ◌++◌, ◌==◌}
use Rattle.std.proofs.Common.{◌||◌, ◌∙◌, ◌∷◌, ◌≡◌}
use Rattle.std.specs.List.{list_any}
use Rattle.std.specs.Option.{is_some, option_map, option_or, unwrap_or}
use Rattle.std.specs.Ordering.{is_eq, nat_cmp, ordering_then}
use Rattle.std.specs.declared.cmp.Ordering.{Ordering}
use Rattle.std.specs.declared.cmp.Ordering.TheVariants.{Equal, Greater, Less}
use Rattle.edit_paths.specs.Histories.{Element, is_element, step_number}
use Rattle.edit_paths.specs.declared.making.Written.{Written}
use Rattle.edit_paths.specs.inner.Writing.{number_of}
use Rattle.edit_paths.proofs.StepsWritten.{same_element}

-- The numbers of the steps that prove elements, by element.

pub number-any : (done : List Written) (e : Element) → list_any (λ (w : Written). is_element w.element e) done ≡ is_some (number_of done e)
number-any [] e = refl
number-any (w ∷ done) e = by (is_element w.element e) (number_of done e) (number-any done e)
  where
    by : (b : Bool) (o : Option ℕ) → list_any (λ (w : Written). is_element w.element e) done ≡ is_some o
        → (b || list_any (λ (w : Written). is_element w.element e) done) ≡ is_some (if b then Some 0 else option_map suc o)
    by true o h = refl
    by false None h = h
    by false (Some n) h = h

pub number-in : (done : List Written) (e : Element) → step_number done e ≡ unwrap_or (number_of done e) (length done)
number-in [] e = refl
number-in (w ∷ done) e = by (is_element w.element e) (number_of done e) (number-in done e)
  where
    by : (b : Bool) (o : Option ℕ) → step_number done e ≡ unwrap_or o (length done) → (if b then 0 else suc (step_number done e))
        ≡ unwrap_or (if b then Some 0 else option_map suc o) (suc (length done))
    by true o h = refl
    by false None h = ap (λ n. suc n) h
    by false (Some n) h = ap (λ n. suc n) h

-- one step more
number-last : (done : List Written) (x : Written) (e : Element) → number_of (done ++ x ∷ []) e
    ≡ option_or (number_of done e) (if is_element x.element e then Some (length done) else None)
number-last [] x e = by (is_element x.element e)
  where
    by : (b : Bool) → (if b then Some 0 else option_map suc None) ≡ (if b then Some 0 else None)
    by true = refl
    by false = refl
number-last (w ∷ done) x e = ap (λ o. if is_element w.element e then Some 0 else option_map suc o) (number-last done x e)
    ∙ by (is_element w.element e) (number_of done e) (is_element x.element e)
  where
    by : (b : Bool) (o : Option ℕ) (d : Bool) → (if b then Some 0 else option_map suc (option_or o (if d then Some (length done) else None)))
        ≡ option_or (if b then Some 0 else option_map suc o) (if d then Some (suc (length done)) else None)
    by true o d = refl
    by false (Some n) d = refl
    by false None true = refl
    by false None false = refl

-- ---- the elements as keys

number_same : (x y : ℕ) → is_eq (nat_cmp x y) ≡ (x == y)
number_same x y = grind arith

pub element-same : (a b : Element) → is_eq (ordering_then (nat_cmp a.0 b.0) (nat_cmp a.1 b.1)) ≡ is_element a b
element-same a b = both (nat_cmp a.0 b.0) (nat_cmp a.1 b.1) ∙ ap (λ t. t && is_eq (nat_cmp a.1 b.1)) (number_same a.0 b.0)
    ∙ ap (λ t. (a.0 == b.0) && t) (number_same a.1 b.1)
  where
    both : (o p : Ordering) → is_eq (ordering_then o p) ≡ (is_eq o && is_eq p)
    both Less p = refl
    both Equal p = refl
    both Greater p = refl

-- the number of a new element, beside those of the elements before
pub number-more : (done : List Written) (x : Written) (e : Element) (old : Option ℕ) → number_of done x.element ≡ None → old ≡ number_of done e
    → cond (is_eq (ordering_then (nat_cmp x.element.0 e.0) (nat_cmp x.element.1 e.1))) (Some (length done)) old ≡ number_of (done ++ x ∷ []) e
number-more done x e old new was = ap (λ b. cond b (Some (length done)) old) (element-same x.element e) ∙ by (is_element x.element e) refl
    ∙ sym (number-last done x e)
  where
    by : (b : Bool) → is_element x.element e ≡ b → cond b (Some (length done)) old ≡ option_or (number_of done e) (if b then Some (length done) else None)
    by true h = sym (ap (λ o. option_or o (Some (length done))) (ap (λ a. number_of done a) (sym (same_element x.element e h)) ∙ new))
    by false h = was ∙ or_none (number_of done e)
      where
        or_none : (o : Option ℕ) → o ≡ option_or o None
        or_none None = refl
        or_none (Some n) = refl

-- an element without a step has no number
pub number-none : (done : List Written) (e : Element) → list_any (λ (w : Written). is_element w.element e) done ≡ false → number_of done e ≡ None
number-none done e none = by (number_of done e) (sym (number-any done e) ∙ none)
  where
    by : (o : Option ℕ) → is_some o ≡ false → o ≡ None
    by None h = refl
    by (Some n) h = absurd (cc)
