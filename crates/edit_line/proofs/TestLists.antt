use Rattle.std.proofs.Common.{◌≡◌, ◌&&◌, ◌||◌, Bool, true, false, not, if◌then◌else◌, List, [], ◌∷◌, inl, inr, map, refl, ap, ◌∙◌}
pub use Rattle.edit_line.proofs.BoolLaws.{and_grouped, or_grouped, or_none}
use Rattle.std.specs.List.{filter, flat_map, list_any}
use Rattle.std.proofs.lemmas.List.Folds.{list_any-append}
use Rattle.edit_line.specs.Reductions.{IsIn}

-- Tests over lists.

-- where the two tests agree at each element
pub any-agree : {X : Type 0} (t u : X → Bool) (xs : List X) → ((x : X) → IsIn x xs → t x ≡ u x) → list_any t xs ≡ list_any u xs
any-agree t u [] same = refl
any-agree t u (x ∷ xs) same =
    ap (λ b. b || list_any t xs) (same x (inl refl)) ∙ ap (λ b. u x || b) (any-agree t u xs (λ y there. same y (inr there)))

pub any-map : {X Y : Type 0} (t : Y → Bool) (h : X → Y) (xs : List X) → list_any t (map h xs) ≡ list_any (λ x. t (h x)) xs
any-map t h [] = refl
any-map t h (x ∷ xs) = ap (λ b. t (h x) || b) (any-map t h xs)

pub any-filter : {X : Type 0} (t p : X → Bool) (xs : List X) → list_any t (filter p xs) ≡ list_any (λ x. p x && t x) xs
any-filter t p [] = refl
any-filter {X} t p (x ∷ xs) = by (p x) (any-filter t p xs)
  where
    by : (b : Bool) → list_any t (filter p xs) ≡ list_any (λ x. p x && t x) xs → list_any t (if b then x ∷ filter p xs else filter p xs)
        ≡ ((b && t x) || list_any (λ x. p x && t x) xs)
    by true e = ap (λ b. t x || b) e
    by false e = e

pub any-flat_map : {X Y : Type 0} (t : Y → Bool) (h : X → List Y) (xs : List X) → list_any t (flat_map h xs) ≡ list_any (λ x. list_any t (h x)) xs
any-flat_map t h [] = refl
any-flat_map t h (x ∷ xs) = list_any-append t (h x) (flat_map h xs) ∙ ap (λ b. list_any t (h x) || b) (any-flat_map t h xs)

-- what does not depend on the element
pub any-and : {X : Type 0} (t : X → Bool) (b : Bool) (xs : List X) → list_any (λ x. t x && b) xs ≡ (list_any t xs && b)
any-and t b [] = refl
any-and t b (x ∷ xs) = ap (λ r. (t x && b) || r) (any-and t b xs) ∙ apart (t x) (list_any t xs) b
  where
    apart : (a r b : Bool) → ((a && b) || (r && b)) ≡ ((a || r) && b)
    apart true true true = refl
    apart true true false = refl
    apart true false true = refl
    apart true false false = refl
    apart false r b = refl

pub and-any : {X : Type 0} (t : X → Bool) (b : Bool) (xs : List X) → list_any (λ x. b && t x) xs ≡ (b && list_any t xs)
and-any t true xs = refl
and-any t false [] = refl
and-any t false (x ∷ xs) = and-any t false xs

-- the elements that pass another test, and those that do not
pub any-split : {X : Type 0} (t p : X → Bool) (xs : List X) → list_any t xs ≡ (list_any (λ x. p x && t x) xs || list_any (λ x. not (p x) && t x) xs)
any-split t p [] = refl
any-split t p (x ∷ xs) = ap (λ r. t x || r) (any-split t p xs) ∙ mixed (p x) (t x) _ _
  where
    mixed : (p t a b : Bool) → (t || (a || b)) ≡ (((p && t) || a) || ((not p && t) || b))
    mixed true true a b = refl
    mixed true false a b = refl
    mixed false true true b = refl
    mixed false true false b = refl
    mixed false false a b = refl
